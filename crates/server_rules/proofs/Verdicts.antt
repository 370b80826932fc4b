-- What is known of a call that is not refused: what its checks found.
use Rattle.std.proofs.Common.{◌≡◌, ℕ, ◌<◌, ◌≤◌, Bool, true, false, cond, not, leb, ltb, length, [], ◌∷◌, ◌+◌, Some, None, Option, Ok, Err, sym, refl, ap}
use Rattle.std.specs.Result.{is_err}
use Rattle.std.proofs.lemmas.Bool.{false≢true, leb-false, ltb-false, not-false}
use Rattle.refusal.specs.Refusals.{Refusal, Verdict, refusal_with, new_or_old}
use Rattle.wrap.specs.Calls.{is_working_short}
use Rattle.cradles.specs.Cradles.{holder, is_cradle, IsCradle}
use Rattle.keys.specs.declared.limits.TheConstants.{LAST_EPOCH}
use Rattle.tree.specs.declared.limits.TheConstants.{CRADLES}
use Rattle.server_rules.specs.declared.state.State.{State}
use Rattle.server_rules.specs.declared.state.PublishReport.{PublishReport}
use Rattle.server_rules.specs.States.{cradle, row, held_cradle_index, has_notes}
use Rattle.cradles.specs.Draws.{drawn_size}
use Rattle.server_rules.specs.Calls.{Publishing}
use Rattle.keys.specs.Limits.{is_serial}
use Rattle.server_rules.specs.Notes.{admit_free_verdict, admit_verdict}
use Rattle.server_rules.specs.Publishings.{due_verdict, lent_verdict, publish_plan_verdict, publish_file_verdict, publish_verdict}
use Rattle.std.specs.Result.{result_and}
use Rattle.server_rules.proofs.Ranges.{in_range}

module _ {A : Type 0} where
  -- a refusal is no answer
  pub refused_done : (f : Refusal) (a : A) → Err f ≡ Ok a → ⊥
  refused_done f a e = false≢true (sym (ap is_err e))

  -- if the answer is no refusal, the check did not trip
  pub passed : (b : Bool) (f : Refusal) (next : Verdict A) (a : A) → cond b (Err f) next ≡ Ok a → (b ≡ false) × (next ≡ Ok a)
  passed true f next a e = absurd (refused_done f a e)
  passed false f next a e = (refl, e)

  -- both verdicts pass
  pub both_passed : (v : Verdict (Unit {0})) (next : Verdict A) (a : A) → result_and v next ≡ Ok a → (v ≡ Ok tt) × (next ≡ Ok a)
  both_passed (Ok u) next a e = (refl, e)
  both_passed (Err f) next a e = absurd (refused_done f a e)

  -- what holds of what a call leaves holds of the new, if it was done, and of the old
  pub left_either : {B : Type 0} (P : B → Type 0) (v : Verdict A) (new old : B) → ((a : A) → v ≡ Ok a → P new) → P old → P (new_or_old v new old)
  left_either P (Ok a) new old f o = f a refl
  left_either P (Err r) new old f o = o

-- a number that passes is that of a cradle
cradled_is : (c : ℕ) → is_cradle c ≡ true → IsCradle c
cradled_is c e = in_range 1 CRADLES c e

-- where it is accepted, both searches found nothing
free_passed : (i y : Option ℕ) → admit_free_verdict i y ≡ Ok tt → (i ≡ None) × (y ≡ None)
free_passed None None e = (refl, refl)
free_passed None (Some y) e = absurd (refused_done (refusal_with 4 (y ∷ [])) tt e)
free_passed (Some i) y e = absurd (refused_done (refusal_with 3 ((i + 1) ∷ [])) tt e)

-- the cradle is one, the scanner holds none, and nobody holds it
pub admit_passed : (s : State) (x c : ℕ) → admit_verdict s x c ≡ Ok tt → IsCradle c × ((held_cradle_index x s ≡ None) × (holder (cradle s c) ≡ None))
admit_passed s x c e =
    let a = passed (not (is_serial x)) _ _ _ e in
    let b = passed (not (is_cradle c)) _ _ _ a.1 in
    (cradled_is c (not-false (is_cradle c) b.0), free_passed (held_cradle_index x s) (holder (cradle s c)) b.1)

-- something is noted, there is an epoch left, and the material is enough
pub plan_passed : (s : State) (p : Publishing) → publish_plan_verdict s p ≡ Ok tt →
    (has_notes s ≡ true) × ((s.epoch < LAST_EPOCH) × (drawn_size (row s) ≤ length p.material))
plan_passed s p e =
    let v = both_passed (due_verdict s) (lent_verdict s p) tt e in
    let a = passed (not (has_notes s)) _ _ _ v.0 in
    let b = passed (leb LAST_EPOCH s.epoch) _ _ _ a.1 in
    let c = passed (is_working_short p.work) _ _ _ v.1 in
    let d = passed (ltb (length p.material) (drawn_size (row s))) _ _ _ c.1 in
    (not-false (has_notes s) a.0, (leb-false LAST_EPOCH s.epoch b.0, ltb-false (length p.material) (drawn_size (row s)) d.0))

-- a publishing that is done passed the checks before its plan
pub publish_passed : (s : State) (p : Publishing) (a : PublishReport) → publish_verdict s p ≡ Ok a → publish_plan_verdict s p ≡ Ok tt
publish_passed s p a e = (both_passed (publish_plan_verdict s p) (publish_file_verdict s p) a e).0
