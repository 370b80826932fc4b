-- The server after calls with ample publishings, and the rows and files of the changes that are then noted.
use Rattle.std.proofs.Common.{◌≡◌, ℕ, ◌-◌, ◌<◌, true, List, [], ◌∷◌, ◌++◌, length, replicate, Ok, refl, sym, ap, ap₂, ◌∙◌, subst, lit<}
use Rattle.std.proofs.lemmas.List.{length-map}
use Rattle.refusal.specs.Refusals.{new_or_old}
use Rattle.tree.specs.declared.types.Code.{Code}
use Rattle.tree.specs.declared.types.Code.TheVariants.{Empty, Stays, Arrives, Departs}
use Rattle.tree.specs.Rows.{changed_nodes}
use Rattle.strategy_rules.specs.Rules.{Rule, plan}
use Rattle.file_rules.specs.Files.{file_size}
use Rattle.file_rules.proofs.Returned.{returned}
use Rattle.server_rules.specs.declared.state.State.{State}
use Rattle.server_rules.specs.States.{row, has_notes}
use Rattle.server_rules.specs.Calls.{Publishing, Call, admit, remove, publish, IsGivenLawfully}
use Rattle.tree.specs.Plans.{StrategyMeaning}
use Rattle.server_rules.specs.Publishings.{publishing_plan, publishing_size, publish_plan_verdict, publishing_file}
use Rattle.server_rules.specs.Steps.{server_of_next_epoch, server_after}
use Rattle.server_rules.specs.Sound.{IsSoundServer}
use Rattle.server_rules.proofs.FilesSound.{file_sound}
use Rattle.law.specs.Runs.{AllGivenLawfully, server_of}
use Rattle.law.proofs.EveryRun.{every_run}
use Rattle.statements.specs.Ample.{IsAmple, IsAmpleBy}
use Rattle.statements.specs.Examples.{first_change, second_change, third_change, change_of_four, last_change, byte_count}
use Rattle.statements.proofs.Ample.{ample_plans, ample_publishes}

-- these codes at the first cradles, nobody at the others
unfoldable pub padded_row : List Code → List Code
padded_row codes = codes ++ replicate (128 - length codes) Empty

-- calls after which something is noted, and an epoch is left: a publishing can be accepted
pub record IsReady (calls : List Call) : Type 0 where
  pub given : AllGivenLawfully calls
  pub noted : has_notes (server_of calls) ≡ true
  pub early : (server_of calls).epoch < 1000000

-- if the server is another one, by an equation
ready_by : (calls : List Call) (s : State) → AllGivenLawfully calls → server_of calls ≡ s → has_notes s ≡ true → s.epoch < 1000000 → IsReady calls
ready_by calls s given is noted early = record {
  given = given;
  noted = ap has_notes is ∙ noted;
  early = subst (λ (t : State). t.epoch < 1000000) (sym is) early;
}

module _ (calls : List Call) (ready : IsReady calls) where
  -- the server
  abbrev s : State
  s = server_of calls

  -- it is sound
  pub sound : IsSoundServer s
  sound = (every_run calls ready.given).sound

  -- an ample publishing of these calls is done
  pub server-publish : (p : Publishing) → IsAmple p → server_of (publish p ∷ calls) ≡ server_of_next_epoch s p.material
  server-publish p a = ap (λ v. new_or_old v (server_of_next_epoch s p.material) s) (ample_publishes s sound ready.noted ready.early p a)

  -- the length of a file, by the row
  pub file_length : (p : Publishing) → IsGivenLawfully (publish p) → publish_plan_verdict s p ≡ Ok tt → byte_count p calls ≡ publishing_size s p
  file_length p g e =
      (returned p.wrap.length (publishing_file s p) (file_sound s p g sound e)).size
      ∙ ap (file_size p.wrap.length (length (changed_nodes (row s)))) (length-map (publishing_plan s p) _)

  -- the length of a file by the codes of the row, a rule and the length of a wrap
  pub by_row : {rule : Rule} {L : ℕ} {codes : List Code} (p : Publishing) → IsAmpleBy rule L p → row s ≡ codes →
      byte_count p calls ≡ file_size L (length (changed_nodes codes)) (length (plan rule codes))
  by_row {rule} {L} p a e =
      file_length p a.ample.given (ample_plans s sound ready.noted ready.early p a.ample)
      ∙ ap₂ (λ (n : ℕ) (f : StrategyMeaning). file_size n (length (changed_nodes (row s))) (length (f (row s)))) a.wrap_length a.strategy
      ∙ ap (λ (r : List Code). file_size L (length (changed_nodes r)) (length (plan rule r))) e

-- the first change can be published
pub first_ready : IsReady first_change
first_ready = record { given = (tt, tt); noted = refl; early = lit< tt }

-- the server after the first change was published
abbrev first_published : Publishing → State
first_published p = server_of_next_epoch (server_of first_change) p.material

module _ (p : Publishing) (a : IsAmple p) where
  -- an ample publishing of the first change leads there
  server-first : server_of (publish p ∷ first_change) ≡ first_published p
  server-first = server-publish first_change first_ready p a

  -- before the second change is published, an arrival at cradle 2 is noted
  second_server : server_of (second_change p) ≡ server_after (first_published p) (admit 1002 2)
  second_server = ap (λ s. server_after s (admit 1002 2)) server-first

  -- in the second change cradle 1 stays, and cradle 2 is filled
  pub second_row : row (server_of (second_change p)) ≡ padded_row (Stays ∷ Arrives ∷ [])
  unfolding padded_row
  second_row = ap row second_server

  -- the second change can be published
  pub second_ready : IsReady (second_change p)
  second_ready = ready_by (second_change p) _ (tt, (a.given, (tt, tt))) second_server refl (lit< tt)

  -- before the last member's departure is published, it is noted
  pub last_server : server_of (last_change p) ≡ server_after (first_published p) (remove 1001)
  last_server = ap (λ s. server_after s (remove 1001)) server-first

  -- when the last member leaves, cradle 1 is emptied, and nobody is elsewhere
  pub last_row : row (server_of (last_change p)) ≡ padded_row (Departs ∷ [])
  unfolding padded_row
  last_row = ap row last_server

  -- the departure of the last member can be published
  pub last_ready : IsReady (last_change p)
  last_ready = ready_by (last_change p) _ (tt, (a.given, (tt, tt))) last_server refl (lit< tt)

  -- the four arrivals
  abbrev four : List Call
  four = admit 1004 4 ∷ admit 1003 3 ∷ admit 1002 2 ∷ admit 1001 1 ∷ []

  -- the four arrivals can be published
  four_ready : IsReady four
  four_ready = record { given = (tt, (tt, (tt, (tt, tt)))); noted = refl; early = lit< tt }

  -- of the members in cradles 1 to 4, the first departs
  pub four_row : row (server_of (change_of_four p)) ≡ padded_row (Departs ∷ Stays ∷ Stays ∷ Stays ∷ [])
  unfolding padded_row
  four_row = ap (λ s. row (server_after s (remove 1001))) (server-publish four four_ready p a)

module _ (p q : Publishing) (a : IsAmple p) (b : IsAmple q) where
  -- before the third change is published, the departure of 1001 is noted
  third_server : server_of (third_change p q)
      ≡ server_after (server_of_next_epoch (server_after (first_published p) (admit 1002 2)) q.material) (remove 1001)
  third_server =
      ap (λ s. server_after s (remove 1001)) (server-publish (second_change p) (second_ready p a) q b)
      ∙ ap (λ s. server_after (server_of_next_epoch s q.material) (remove 1001)) (second_server p a)

  -- in the third change cradle 1 is emptied, and cradle 2 stays
  pub third_row : row (server_of (third_change p q)) ≡ padded_row (Departs ∷ Stays ∷ [])
  unfolding padded_row
  third_row = ap row third_server

  -- the third change can be published
  pub third_ready : IsReady (third_change p q)
  third_ready = ready_by (third_change p q) _ (tt, (b.given, (second_ready p a).given)) third_server refl (lit< tt)
