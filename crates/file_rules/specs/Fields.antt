-- Fields of a file, and the place of the first fault among them.
use Rattle.std.specs.Prelude.{ℕ, ◌+◌, Bool, if◌then◌else◌, List, [], ◌∷◌, length}
use Rattle.std.specs.Prelude.{Some, None, Option, nat_le}

-- a field: the place of its first byte, how many bytes it has, and whether its value is right
pub record FileField : Type 0 where
  pub at : ℕ
  pub size : ℕ
  pub right : Bool

-- the field at a place, of so many bytes
abbrev pub file_field : ℕ → ℕ → Bool → FileField
file_field at size right = record { at = at; size = size; right = right }

-- of a file of len bytes, whose fields stand in byte order: a wrong field has its own place, and
-- one that runs past the end has the file's length, whatever its value is
abbrev pub fault_place : ℕ → List FileField → Option ℕ
fault_place len [] = None
fault_place len (f ∷ fs) =
    if nat_le (f.at + f.size) len
    then (if f.right then fault_place len fs else Some f.at)
    else Some len

-- the same, of the file's bytes
abbrev pub fault_in : List ℕ → List FileField → Option ℕ
fault_in bs fields = fault_place (length bs) fields
