-- Who stays reads the file of a publishing, and so does who arrives: of any sound server, whichever
-- run made it. Where the law lists runs and files, the newest stands first.
use Rattle.std.specs.Prelude.{◌≡◌, ℕ, ◌+◌, ◌≤◌, List, ◌++◌, length, replicate, Ok, IsTrue}
use Rattle.tree.specs.declared.types.Code.TheVariants.{Stays}
use Rattle.tree.specs.Tree.{IsLeaf}
use Rattle.tree.specs.Rows.{code_at}
use Rattle.keys.specs.Names.{keys_in}
use Rattle.file_rules.specs.Files.{file_bytes}
use Rattle.server_rules.specs.declared.state.State.{State}
use Rattle.server_rules.specs.States.{row}
use Rattle.cradles.specs.Draws.{is_arrival_code}
use Rattle.server_rules.specs.Calls.{publish, Publishing, IsGivenLawfully}
use Rattle.server_rules.specs.Publishings.{publish_plan_verdict, publishing_file}
use Rattle.server_rules.specs.Steps.{server_of_next_epoch}
use Rattle.server_rules.specs.Sound.{IsSoundServer}
use Rattle.player_rules.specs.Rings.{entry_bytes, ring_bytes, path_entries}
use Rattle.player_rules.specs.Players.{read_verdict}
use Rattle.wrap.specs.declared.working.TheConstants.{WORKING_BYTES}

-- the player's ring holds the keys before the change, and it stays where it is
pub record IsStayingPlayer (s : State) (leaf : ℕ) (ring : List ℕ) : Type 0 where
  pub is_leaf : IsLeaf leaf
  pub stays : code_at (row s) leaf ≡ Stays
  pub holds : ring ≡ ring_bytes (path_entries (keys_in s.nodes) leaf)

-- the player's ring holds the new key of its leaf, and nothing else; it arrives
pub record IsArrivingPlayer (s : State) (material : List ℕ) (leaf : ℕ) (ring : List ℕ) :
    Type 0 where
  pub is_leaf : IsLeaf leaf
  pub arrives : IsTrue (is_arrival_code (code_at (row s) leaf))
  -- zeros for the 7 nodes above the leaf, 36 bytes each
  pub holds : ring
      ≡ entry_bytes (keys_in (server_of_next_epoch s material).nodes leaf) ++ replicate 252 0

-- a publishing of a sound server, given what it asks for, that passes the checks before its file's
pub record IsPlannedPublishing (s : State) (p : Publishing) : Type 0 where
  pub given : IsGivenLawfully (publish p)
  pub sound : IsSoundServer s
  pub passes : publish_plan_verdict s p ≡ Ok tt

-- lent enough working bytes, the player in that leaf reads the file of the publishing, and then
-- holds the keys after the change
abbrev pub ReadsPublishing : State → Publishing → ℕ → List ℕ → Type 0
ReadsPublishing s p leaf ring =
    (work : List ℕ) → WORKING_BYTES ≤ length work →
    read_verdict leaf (s.epoch + 1) p.wrap (file_bytes (publishing_file s p)) work ring
    ≡ Ok (path_entries (keys_in (server_of_next_epoch s p.material).nodes) leaf)

-- who stays reads the file of any such publishing
abbrev pub StayingReads : Type 0
StayingReads =
    (s : State) (p : Publishing) → IsPlannedPublishing s p →
    (leaf : ℕ) (ring : List ℕ) → IsStayingPlayer s leaf ring → ReadsPublishing s p leaf ring

-- and so does who arrives
abbrev pub ArrivingReads : Type 0
ArrivingReads =
    (s : State) (p : Publishing) → IsPlannedPublishing s p →
    (leaf : ℕ) (ring : List ℕ) → IsArrivingPlayer s p.material leaf ring →
    ReadsPublishing s p leaf ring
