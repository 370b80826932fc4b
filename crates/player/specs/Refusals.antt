-- The refusals of a player's calls that read no file: the number of each, and the values that are
-- reported with it.
use Rattle.std.specs.Prelude.{[], ◌∷◌}
use Rattle.refusal.specs.Refusals.{Refusal, refusal_with}
use Rattle.player.specs.declared.fault.EnrolFault.{EnrolFault}
use Rattle.player.specs.declared.fault.EnrolFault.TheVariants as enrol
use Rattle.player.specs.declared.fault.RingFault.{RingFault}
use Rattle.player.specs.declared.fault.RingFault.TheVariants as ring

-- the refusals of enrolling
abbrev pub enrol_refusal : EnrolFault → Refusal
enrol_refusal enrol.NotARing = refusal_with 14 []
enrol_refusal (enrol.Card place) = refusal_with 13 (place ∷ [])

-- the refusal of showing and of wiping
abbrev pub ring_refusal : RingFault → Refusal
ring_refusal ring.NotARing = refusal_with 14 []
