-- The refusals of the writer: the number of each, and the values that are reported with it.
use Rattle.std.specs.Prelude.{[], ◌∷◌}
use Rattle.refusal.specs.Refusals.{Refusal, refusal_with}
use Rattle.file_writer.specs.declared.fault.WriteFault.{WriteFault}
use Rattle.file_writer.specs.declared.fault.WriteFault.TheVariants.{ShortWorking, ShortFile}

-- too few working bytes: 9; a buffer without room for the file: 12, with the bytes that it needs
abbrev pub write_refusal : WriteFault → Refusal
write_refusal ShortWorking = refusal_with 9 []
write_refusal (ShortFile needed) = refusal_with 12 (needed ∷ [])
