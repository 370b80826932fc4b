-- The search for a scanner among the cradles of a server.
use Rattle.std.proofs.Common.{◌≡◌, ℕ, ◌+◌, ◌-◌, Bool, true, length, get_or, Some, None, Option, refl, ap, ◌∙◌, sym, arith}
use Rattle.std.specs.Prelude.{position}
use Rattle.std.proofs.lemmas.Bool.{eq-eqb, eqb-true, true≢false}
use Rattle.std.proofs.lemmas.List.Quantifiers.{position-Some}
use Rattle.cradles.specs.declared.Cradle.{Cradle}
use Rattle.cradles.specs.declared.Cradle.TheVariants.{Empty}
use Rattle.server_rules.specs.declared.state.State.{State}
use Rattle.server_rules.specs.States.{cradle, is_that_serial}
use Rattle.cradles.specs.Cradles.{IsCradle}
use Rattle.byte_strings.proofs.Positions.{none_passes}

-- whose test it passes
pub it_is : (x : ℕ) (o : Option ℕ) → is_that_serial x o ≡ true → o ≡ Some x
it_is x None e = absurd (true≢false (sym e))
it_is x (Some y) e = ap Some (eqb-true y x e)

-- by who is in a cradle, or who holds it
module _ (s : State) (count : length s.cradles ≡ 128) (whose : Cradle → Option ℕ) (x : ℕ) where
  -- the test of the search
  abbrev is_match : Cradle → Bool
  is_match k = is_that_serial x (whose k)

  -- a cradle that is the scanner's passes the test
  passes : (c : ℕ) → whose (cradle s c) ≡ Some x → is_match (cradle s c) ≡ true
  passes c e = ap (is_that_serial x) e ∙ eq-eqb x x refl

  -- where the search finds a cradle, it is the scanner's
  pub found_at : (i : ℕ) → position is_match s.cradles ≡ Some i → IsCradle (i + 1) × (whose (cradle s (i + 1)) ≡ Some x)
  found_at i e =
      let found = position-Some is_match s.cradles i Empty e in
      let same : i + 1 - 1 ≡ i = omega arith in (
        (omega arith, omega (arith, found.0, count)),
        ap (λ n. whose (get_or s.cradles n Empty)) same ∙ it_is x (whose (get_or s.cradles i Empty)) found.1,
      )

  -- if the search finds none, no cradle is the scanner's
  pub found_nowhere : position is_match s.cradles ≡ None → (c : ℕ) → IsCradle c → whose (cradle s c) ≡ Some x → ⊥
  found_nowhere e c k is = true≢false (sym (passes c is) ∙ none_passes is_match s.cradles (c - 1) Empty e (omega (arith, count)))

  -- one that is in no two cradles is found in its own
  pub found_there : ((c d : ℕ) → IsCradle c → IsCradle d → whose (cradle s c) ≡ Some x → whose (cradle s d) ≡ Some x → c ≡ d) →
      (c : ℕ) → IsCradle c → whose (cradle s c) ≡ Some x → position is_match s.cradles ≡ Some (c - 1)
  found_there apart c k is = go (position is_match s.cradles) refl
    where
      go : (o : Option ℕ) → position is_match s.cradles ≡ o → o ≡ Some (c - 1)
      go None e = absurd (found_nowhere e c k is)
      go (Some i) e =
          let at = found_at i e in
          let one : i + 1 ≡ c = apart (i + 1) c at.0 k at.1 is in
          ap Some (omega arith)
