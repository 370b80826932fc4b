-- What calls keep, and what a publishing does to keys.
use Rattle.std.specs.Prelude.{◌≡◌, ℕ, ◌+◌, ◌*◌, ◌<◌, List, length, Ok, slice_index_or}
use Rattle.byte_strings.specs.Strings.{part}
use Rattle.tree.specs.declared.types.Code.{Code}
use Rattle.tree.specs.Tree.{IsLeaf}
use Rattle.tree.specs.Rows.{code_at, is_changed}
use Rattle.keys.specs.Names.{Keys, unmade_key, keys_in}
use Rattle.file_rules.specs.Laws as files
use Rattle.cradles.specs.Cradles.{cradle_code, IsCradle}
use Rattle.server_rules.specs.declared.state.State.{State}
use Rattle.server_rules.specs.States.{new_state, cradle, leaf_of, row, has_notes}
use Rattle.cradles.specs.Draws.{is_arrival_code, is_emptying_code, receivers}
use Rattle.server_rules.specs.Calls.{Call, publish, Publishing, IsGivenLawfully}
use Rattle.server_rules.specs.Publishings.{publish_plan_verdict, publishing_file}
use Rattle.server_rules.specs.Steps.{server_of_next_epoch, server_after}
use Rattle.server_rules.specs.Sound.{IsSoundServer}
use Rattle.std.specs.Prelude.{IsTrue, IsFalse}

-- what a change that begins that epoch does to the keys of the nodes
pub record IsRenewal
    (epoch : ℕ) (row : List Code) (material : List ℕ) (former present : Keys) : Type 0 where
  -- a changed node has a key of the new epoch, and so has an arrival's leaf
  pub changed_new : (n : ℕ) → IsTrue (is_changed row n) → (present n).made ≡ epoch
  pub arrival_new : (u : ℕ) → IsLeaf u →
      IsTrue (is_arrival_code (code_at row u)) → (present u).made ≡ epoch
  -- an emptied leaf has none
  pub emptied_none : (u : ℕ) → IsLeaf u →
      IsTrue (is_emptying_code (code_at row u)) → present u ≡ unmade_key
  -- every other node keeps what it had
  pub others_kept : (n : ℕ) → IsFalse (is_changed row n) →
      (IsLeaf n →
      IsFalse (is_arrival_code (code_at row n)) × IsFalse (is_emptying_code (code_at row n))) →
      present n ≡ former n
  -- the new keys are drawn in order, 32 bytes each
  pub drawn_in_order : (i : ℕ) → i < length (receivers row) →
      (present (slice_index_or (receivers row) i 0)).key ≡ part 32 (32 * i) material

-- what holds of all states and calls
pub record StateLaws : Type 0 where
  -- a new server is sound
  pub new_sound : IsSoundServer new_state
  -- every call, accepted or refused, keeps a server sound
  pub after_sound : (s : State) (c : Call) → IsGivenLawfully c →
      IsSoundServer s → IsSoundServer (server_after s c)
  -- the code of a cradle stands at its leaf
  pub code_at_leaf : (s : State) (c : ℕ) → IsSoundServer s → IsCradle c →
      code_at (row s) (leaf_of c) ≡ cradle_code (cradle s c)
  -- with something noted the root gets a new key
  pub noted_root : (s : State) → IsSoundServer s →
      IsTrue (has_notes s) → IsTrue (is_changed (row s) 1)
  -- a publishing does to the keys what a change of its row does
  pub renewal : (s : State) (material : List ℕ) → IsSoundServer s →
      IsRenewal (s.epoch + 1) (row s) material
      (keys_in s.nodes) (keys_in (server_of_next_epoch s material).nodes)
  -- a file that is published is sound, so it is accepted and read back
  pub file_sound : (s : State) (p : Publishing) → IsGivenLawfully (publish p) →
      IsSoundServer s → publish_plan_verdict s p ≡ Ok tt →
      files.IsSoundFile p.wrap.length (publishing_file s p)
