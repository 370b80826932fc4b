-- Worked examples of a server: its first arrival, and the departure of its last member. Calls are
-- listed the newest first.
use Rattle.std.specs.Prelude.{◌≡◌, ℕ, ◌≤◌, ◌&&◌, [], ◌∷◌, length, Ok}
use Rattle.refusal.specs.Refusals.{refusal}
use Rattle.strategy_rules.specs.Rules.{key_oriented_rule, plan}
use Rattle.server_rules.specs.States.{new_state, row}
use Rattle.cradles.specs.Draws.{drawn_size}
use Rattle.server_rules.specs.Calls.{Publishing, publish, IsGivenLawfully}
use Rattle.keys.specs.Limits.{is_serial}
use Rattle.server_rules.specs.Notes.{admit_verdict, remove_verdict}
use Rattle.cradles.specs.Cradles.{is_cradle}
use Rattle.server_rules.specs.Publishings.{publish_verdict}
use Rattle.law.specs.Law.{AdmitChecks}
use Rattle.statements.specs.Ample.{IsAmple, IsAmpleBy}
use Rattle.law.specs.Runs.{server_of}
use Rattle.statements.specs.Examples.{first_change, last_change, byte_count}
use Rattle.wrap.specs.declared.working.TheConstants.{WORKING_BYTES}

-- a publishing with the key-oriented strategy is lent just enough for the first arrival
pub record IsEnoughForOne (p : Publishing) : Type 0 where
  pub given : IsGivenLawfully (publish p)
  pub strategy : p.strategy ≡ plan key_oriented_rule
  pub work : WORKING_BYTES ≤ length p.work
  pub material : 256 ≤ length p.material
  pub pairs : 7 ≤ length p.pairs
  pub file : byte_count p first_change ≤ length p.file

-- what is answered, reported and drawn in these changes
pub record ServerExamplesHold : Type 0 where
  -- the last cradle is 128, the last serial 9,999
  pub last_cradle : admit_verdict new_state 9999 128 ≡ Ok tt
  pub no_cradle : admit_verdict new_state 9999 129 ≡ refusal 2 []
  pub no_serial : admit_verdict new_state 10000 129 ≡ refusal 1 []
  -- admit checks that the serial and the cradle are such numbers
  pub admit_checks : AdmitChecks (λ x c. is_serial x && is_cradle c)
  -- the scanner holds cradle 1, though it is not in it yet
  pub serial_held : admit_verdict (server_of first_change) 1001 2 ≡ refusal 3 (1 ∷ [])
  pub cradle_held : admit_verdict (server_of first_change) 1002 1 ≡ refusal 4 (1001 ∷ [])
  pub not_seated : remove_verdict (server_of first_change) 1001 ≡ refusal 5 []
  pub nothing_noted : (p : Publishing) → publish_verdict new_state p ≡ refusal 7 []
  -- one arrival takes 256 bytes of material
  pub one_arrival : drawn_size (row (server_of first_change)) ≡ 256
  pub a_byte_short : (p : Publishing) → WORKING_BYTES ≤ length p.work → length p.material ≡ 255 →
      publish_verdict (server_of first_change) p ≡ refusal 10 (256 ∷ [])
  -- what is enough for any change is enough for that
  pub ample_enough : (p : Publishing) (L : ℕ) → IsAmpleBy key_oriented_rule L p → IsEnoughForOne p
  -- with enough it is reported as epoch 1, with 7 wraps, the bytes of its file, and 256 drawn
  pub first_epoch : (p : Publishing) → IsEnoughForOne p →
      publish_verdict (server_of first_change) p
      ≡ Ok (record { epoch = 1; wraps = 7; bytes = byte_count p first_change; drawn = 256 })
  -- the last member leaves: it cannot be noted twice, and 224 bytes are drawn
  pub departing : (p : Publishing) → IsAmple p →
      remove_verdict (server_of (last_change p)) 1001 ≡ refusal 6 []
  pub last_drawn : (p : Publishing) → IsAmple p → drawn_size (row (server_of (last_change p))) ≡ 224
