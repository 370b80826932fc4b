-- A call keeps what every server keeps, and adds one to the calls that the server comes from.
use Rattle.std.proofs.Common.{◌≡◌, ℕ, List, [], ◌∷◌, get_or, Fits, w8, refl, sym, ap, ◌∙◌, subst}
use Rattle.std.proofs.Math.Facts.{Fits-lt-pow}
use Rattle.std.proofs.Math.Logic.{∥∥₁_map}
use Rattle.byte_strings.specs.Strings.{IsBytes}
use Rattle.byte_strings.proofs.Parts.{bytes_at}
use Rattle.wrap.specs.Meaning.{WrapMeaning, IsLawfulWrap}
use Rattle.server_rules.specs.declared.state.State.{State}
use Rattle.server_rules.specs.States.{new_state}
use Rattle.server_rules.specs.Calls.{Call, IsGivenLawfully}
use Rattle.tree.specs.Plans.{StrategyMeaning, IsLawfulStrategy}
use Rattle.server_rules.specs.Steps.{server_after}
use Rattle.server_rules.specs.Sound.{IsSoundServer}
use Rattle.server_rules.proofs.EveryCall.{state_laws}
use Rattle.law.specs.Runs.{ComesFromRun}
use Rattle.law.specs.Law.{LawHoldsFor}
use Rattle.law.proofs.EveryRun.{every_run}

-- a new server is sound, and comes from the run without calls
pub new_kept : IsSoundServer new_state × ∥ ComesFromRun new_state ∥₁
new_kept = (state_laws.new_sound, ∣ ([], (tt, refl)) ∣₁)

-- a publishing by a lawful strategy and wrap, of material that is bytes
pub publish_given : {plan : StrategyMeaning} {wrap : WrapMeaning} → IsLawfulStrategy plan → IsLawfulWrap wrap →
    (material : List ℕ) → ((i : ℕ) → Fits w8 (get_or material i 0)) →
    IsLawfulStrategy plan × (IsLawfulWrap wrap × IsBytes material)
publish_given lawful wrap material bytes = (lawful, (wrap, bytes_at material (λ i. Fits-lt-pow (bytes i))))

module _ (c : Call) (given : IsGivenLawfully c) (s t : State) (is : t ≡ server_after s c) where
  -- a call leaves a sound server sound
  pub sound_after : IsSoundServer s → IsSoundServer t
  sound_after sound = subst IsSoundServer (sym is) (state_laws.after_sound s c given sound)

  -- a call on a server that comes from a run leaves one that does
  pub run_after : ∥ ComesFromRun s ∥₁ → ∥ ComesFromRun t ∥₁
  run_after from = ∥∥₁_map from (λ r. (c ∷ r.0, ((given, r.1.0), ap (λ u. server_after u c) r.1.1 ∙ sym is)))

-- all that holds of runs holds of a server that comes from one
pub law_of : (s : State) → ∥ ComesFromRun s ∥₁ → ∥ LawHoldsFor s ∥₁
law_of s from =
    ∥∥₁_map from (λ r. record { calls = r.0; given = r.1.0; is_server = r.1.1; holds = every_run r.0 r.1.0 })
