-- The refusals of a key wrap.
use Rattle.std.specs.Prelude.{[], ◌∷◌}
use Rattle.refusal.specs.Refusals.{Refusal, refusal_with}
use Rattle.wrap.specs.declared.fault.WrapFault.{WrapFault}
use Rattle.wrap.specs.declared.fault.WrapFault.TheVariants.{ShortWorking, ShortBuffer, DoesNotOpen}

-- the number of each fault, and the values that are reported with it
abbrev pub wrap_refusal : WrapFault → Refusal
wrap_refusal ShortWorking = refusal_with 9 []
wrap_refusal (ShortBuffer needed) = refusal_with 12 (needed ∷ [])
wrap_refusal DoesNotOpen = refusal_with 18 []
