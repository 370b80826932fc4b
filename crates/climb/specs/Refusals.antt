-- The refusals of reading a file: the number of each, and the values that are reported with it.
use Rattle.std.specs.Prelude.{[], ◌∷◌, Ok, Err, Result}
use Rattle.refusal.specs.Refusals.{Refusal, Verdict, refusal_with}
use Rattle.layout.specs.Refusals.{layout_refusal}
use Rattle.layout.specs.declared.fault.LayoutFault.{LayoutFault}
use Rattle.file_reader.specs.Refusals.{file_refusal, refusal_with_more}
use Rattle.climb.specs.declared.fault.ReadFault.{ReadFault}
use Rattle.climb.specs.declared.fault.ReadFault.TheVariants as read
use Rattle.climb.specs.declared.fault.DatedFault.{DatedFault}

-- a fault of the layout, as a fault of the reading: it has no epoch
abbrev pub layout_read_fault : LayoutFault → ReadFault
layout_read_fault f = read.Layout f

-- a fault of an opening beside the file's epoch, as a fault of the reading
abbrev pub file_read_fault : DatedFault → ReadFault
file_read_fault f = read.File f.epoch f.fault

-- the number and the values of each refusal: 18 reports the wrap's index and the file's epoch
abbrev pub read_refusal : ReadFault → Refusal
read_refusal read.ShortWorking = refusal_with 9 []
read_refusal read.NotARing = refusal_with 14 []
read_refusal (read.Layout fault) = layout_refusal fault
read_refusal (read.TooLow wanted) = refusal_with 16 (wanted ∷ [])
read_refusal (read.TooHigh wanted) = refusal_with 17 (wanted ∷ [])
read_refusal (read.File epoch fault) = refusal_with_more epoch (file_refusal fault)
read_refusal (read.ShutOut node) = refusal_with 19 (node ∷ [])

-- a result as a verdict, with what the call leaves if it was not refused
abbrev pub verdict_with : {A : Type 0} → Result (Unit {0}) ReadFault → A → Verdict A
verdict_with (Ok u) left = Ok left
verdict_with (Err f) left = Err (read_refusal f)

-- a verdict without its value
abbrev pub bare_verdict : {A : Type 0} → Verdict A → Verdict (Unit {0})
bare_verdict (Ok a) = Ok tt
bare_verdict (Err f) = Err f
