-- Publishings that are lent enough for any change, and that there are such. Calls are listed the
-- newest first.
use Rattle.std.specs.Prelude.{◌≡◌, ℕ, ◌<◌, ◌≤◌, List, [], ◌∷◌, length, replicate, Ok, IsTrue}
use Rattle.std.specs.Prelude.{Contains}
use Rattle.tree.specs.declared.types.Opener.TheVariants.{Present}
use Rattle.tree.specs.Plans.{pair}
use Rattle.strategy_rules.specs.Rules.{Rule, plan, star_rule, user_oriented_rule, key_oriented_rule}
use Rattle.wrap.specs.Meaning.{WrapMeaning, IsLawfulWrap}
use Rattle.server_rules.specs.Calls.{Publishing, publishing, Call, publish, IsGivenLawfully}
use Rattle.server_rules.specs.States.{has_notes}
use Rattle.server_rules.specs.Publishings.{publishing_report, publish_verdict}
use Rattle.law.specs.Runs.{server_of, AllGivenLawfully}
use Rattle.wrap.specs.declared.working.TheConstants.{WORKING_BYTES}
use Rattle.keys.specs.declared.limits.TheConstants.{LAST_EPOCH}
use Rattle.tree.specs.declared.limits.TheConstants.{MOST_PAIRS}

-- the most bytes that a change draws: 32 for each of 128 leaves and 127 inner nodes
abbrev pub most_drawn : ℕ
most_drawn = 8160

-- the most bytes that a file has: 10, 127 nodes, and 896 wraps of 70, 64 of them sealed
abbrev pub most_file_bytes : ℕ
most_file_bytes = 62857

-- a publishing is given what the law over runs asks for, and is lent enough for any change
pub record IsAmple (p : Publishing) : Type 0 where
  pub given : IsGivenLawfully (publish p)
  pub work : WORKING_BYTES ≤ length p.work
  pub material : most_drawn ≤ length p.material
  pub pairs : MOST_PAIRS ≤ length p.pairs
  pub file : most_file_bytes ≤ length p.file

-- such a publishing, by the strategy of that rule, with a wrap of L bytes
pub record IsAmpleBy (rule : Rule) (L : ℕ) (p : Publishing) : Type 0 where
  pub ample : IsAmple p
  pub strategy : p.strategy ≡ plan rule
  pub wrap_length : p.wrap.length ≡ L

-- the rules of the three strategies
abbrev pub three_rules : List Rule
three_rules = star_rule ∷ user_oriented_rule ∷ key_oriented_rule ∷ []

-- a publishing that is lent zeros, of each thing no more than is enough
abbrev pub zero_publishing : Rule → WrapMeaning → Publishing
zero_publishing rule wrap =
    publishing (plan rule) wrap (replicate most_drawn 0) (replicate MOST_PAIRS (pair (Present 0) 0))
    (replicate most_file_bytes 0) (replicate WORKING_BYTES 0)

-- an ample publishing is enough, and there are such publishings
pub record AmpleExamplesHold : Type 0 where
  -- after any calls that leave something noted and an epoch free, it is accepted
  pub enough : (calls : List Call) (p : Publishing) → AllGivenLawfully calls → IsAmple p →
      IsTrue (has_notes (server_of calls)) → (server_of calls).epoch < LAST_EPOCH →
      publish_verdict (server_of calls) p ≡ Ok (publishing_report (server_of calls) p)
  -- there is one for each of the three strategies and any lawful wrap, as the product's two are
  pub any_ample : (rule : Rule) (w : WrapMeaning) → Contains three_rules rule → IsLawfulWrap w →
      IsAmpleBy rule w.length (zero_publishing rule w)
