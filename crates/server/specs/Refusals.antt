-- The refusals of the server's calls: the number of each, and the values that it carries.
use Rattle.std.specs.Prelude.{[], ◌∷◌}
use Rattle.refusal.specs.Refusals.{Refusal, refusal_with}
use Rattle.server.specs.declared.fault.AdmitFault.{AdmitFault}
use Rattle.server.specs.declared.fault.AdmitFault.TheVariants as admit
use Rattle.server.specs.declared.fault.RemoveFault.{RemoveFault}
use Rattle.server.specs.declared.fault.RemoveFault.TheVariants as remove
use Rattle.server.specs.declared.fault.CardFault.{CardFault}
use Rattle.server.specs.declared.fault.CardFault.TheVariants as card
use Rattle.server.specs.declared.fault.PublishFault.{PublishFault}
use Rattle.server.specs.declared.fault.PublishFault.TheVariants.{NothingNoted, LastEpoch}
use Rattle.server.specs.declared.fault.PublishFault.TheVariants.{ShortWorking, ShortMaterial}
use Rattle.server.specs.declared.fault.PublishFault.TheVariants.{ShortPairs, ShortFile}

-- why an arrival was not noted
abbrev pub admit_refusal : AdmitFault → Refusal
admit_refusal admit.NoSerial = refusal_with 1 []
admit_refusal admit.NoCradle = refusal_with 2 []
admit_refusal (admit.SerialHeld cradle) = refusal_with 3 (cradle ∷ [])
admit_refusal (admit.CradleHeld serial) = refusal_with 4 (serial ∷ [])

-- why a departure was not noted
abbrev pub remove_refusal : RemoveFault → Refusal
remove_refusal remove.NoSerial = refusal_with 1 []
remove_refusal remove.NotSeated = refusal_with 5 []
remove_refusal remove.Departing = refusal_with 6 []

-- why a card was not written
abbrev pub card_refusal : CardFault → Refusal
card_refusal card.NoSerial = refusal_with 1 []
card_refusal card.NotSeated = refusal_with 5 []
card_refusal (card.ShortCard needed) = refusal_with 12 (needed ∷ [])

-- why nothing was published
abbrev pub publish_refusal : PublishFault → Refusal
publish_refusal NothingNoted = refusal_with 7 []
publish_refusal LastEpoch = refusal_with 8 []
publish_refusal ShortWorking = refusal_with 9 []
publish_refusal (ShortMaterial needed) = refusal_with 10 (needed ∷ [])
publish_refusal (ShortPairs needed) = refusal_with 11 (needed ∷ [])
publish_refusal (ShortFile needed) = refusal_with 12 (needed ∷ [])
