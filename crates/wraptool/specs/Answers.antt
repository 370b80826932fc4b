-- What the tool's answers are made of.
use Rattle.std.specs.Prelude.{◌≡◌, ℕ, ◌==◌, if◌then◌else◌, List, length, vec_items}
use Rattle.std.specs.Prelude.{Ok, Err, Result, None, Some, Option}
use Rattle.std.specs.declared.vec.Vec.{Vec}
use Rattle.wrap.specs.Refusals.{wrap_refusal}
use Rattle.wraptool.specs.declared.commands.AesKey.{AesKey}
use Rattle.wraptool.specs.declared.commands.AesKey.TheVariants.{Short, Long}
use Rattle.wraptool.specs.declared.fault.Fault.{Fault}
use Rattle.wraptool.specs.declared.fault.Fault.TheVariants.{NotText, UnknownCommand, WordCount}
use Rattle.wraptool.specs.declared.fault.Fault.TheVariants.{UnknownKind, Hex, Length, AesKeyLength}
use Rattle.wraptool.specs.declared.fault.Fault.TheVariants.{NoMemory, Refused}

-- the bytes of an AES key of either length
abbrev pub key_bytes : AesKey → List ℕ
key_bytes (Short key) = key
key_bytes (Long key) = key

-- the answer is these bytes, or the refusal 18 where there are none; or something else is wrong
abbrev pub Shows : {A : Type 0} → Result (Vec ℕ A) Fault → Option (List ℕ) → Type 0
Shows (Ok v) result = result ≡ Some (vec_items v)
Shows (Err (Refused fault)) result = (result ≡ None) × ((wrap_refusal fault).number ≡ 18)
Shows (Err NotText) result = Unit {0}
Shows (Err UnknownCommand) result = Unit {0}
Shows (Err (WordCount wanted)) result = Unit {0}
Shows (Err (UnknownKind fault)) result = Unit {0}
Shows (Err (Hex fault)) result = Unit {0}
Shows (Err (Length part bytes wanted)) result = Unit {0}
Shows (Err (AesKeyLength bytes)) result = Unit {0}
Shows (Err (NoMemory error)) result = Unit {0}

-- what `len` bytes open to; any other number of bytes does not open
abbrev pub content_if_sized : ℕ → List ℕ → Option (List ℕ) → Option (List ℕ)
content_if_sized len bytes content = if length bytes == len then content else None
