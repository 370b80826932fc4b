-- The refusals of an opening: the number of each, and the values that are reported with it.
use Rattle.std.specs.Prelude.{ℕ, if◌then◌else◌, [], ◌∷◌, ◌++◌, ◌==◌}
use Rattle.refusal.specs.Refusals.{Refusal, refusal_with}
use Rattle.wrap.specs.Refusals.{wrap_refusal}
use Rattle.file_reader.specs.declared.fault.FileFault.{FileFault}
use Rattle.file_reader.specs.declared.fault.FileFault.TheVariants.{Wrap}
use Rattle.file_reader.specs.declared.fault.IndexedFault.{IndexedFault}

-- a wrap's fault beside its index, as a fault of the file
abbrev pub file_fault_of : IndexedFault → FileFault
file_fault_of f = Wrap f.index f.fault

-- a refusal, where it is that of bytes that do not open (18) with one value more behind its own
abbrev pub refusal_with_more : ℕ → Refusal → Refusal
refusal_with_more value r =
    refusal_with r.number (if r.number == 18 then r.values ++ (value ∷ []) else r.values)

-- the number and the values of each refusal: 18 reports the wrap's index
abbrev pub file_refusal : FileFault → Refusal
file_refusal (Wrap index fault) = refusal_with_more index (wrap_refusal fault)
