-- Bytes written in hexadecimal, two digits to a byte, the high one first.
use Rattle.std.specs.Prelude.{◌≡◌, ℕ, ◌+◌, ◌-◌, ◌*◌, ◌/◌, ◌%◌, false}
use Rattle.std.specs.Prelude.{if◌then◌else◌, List, [], ◌∷◌, ◌++◌, length, Some, None, Option}
use Rattle.std.specs.Fmt.{digit_glyph}
use Rattle.wraptool.specs.declared.hex.HexFault.{HexFault}
use Rattle.wraptool.specs.declared.hex.HexFault.TheVariants.{OddCount, NotADigit, NoMemory}
use Rattle.std.specs.Int.{is_in_range}

-- the value of a digit of either case, by its ASCII code
abbrev pub hex_digit_value : ℕ → Option ℕ
hex_digit_value c =
    if is_in_range 0x30 0x39 c then Some (c - 0x30)
    else (if is_in_range 0x61 0x66 c then Some (c - 0x61 + 10)
    else (if is_in_range 0x41 0x46 c then Some (c - 0x41 + 10) else None))

-- the byte of two digits' values, where both have one
abbrev pub byte_of_values : Option ℕ → Option ℕ → Option ℕ
byte_of_values None l = None
byte_of_values (Some h) None = None
byte_of_values (Some h) (Some l) = Some (16 * h + l)

-- the byte that two digits write, by their ASCII codes
abbrev pub byte_of_digits : ℕ → ℕ → Option ℕ
byte_of_digits c d = byte_of_values (hex_digit_value c) (hex_digit_value d)

-- a byte in front of the rest, where both are read
abbrev pub byte_and_rest : Option ℕ → Option (List ℕ) → Option (List ℕ)
byte_and_rest None rest = None
byte_and_rest (Some b) None = None
byte_and_rest (Some b) (Some s) = Some (b ∷ s)

-- what a text of digits says, or nothing where it has another character or an odd count
abbrev pub decoded_bytes : List ℕ → Option (List ℕ)
decoded_bytes [] = Some []
decoded_bytes (c ∷ []) = None
decoded_bytes (c ∷ d ∷ s) = byte_and_rest (byte_of_digits c d) (decoded_bytes s)

-- what a fault says of the text: an odd count is reported first; running out of memory says nothing
abbrev pub IsHexFaultOf : HexFault → List ℕ → Type 0
IsHexFaultOf OddCount text = length text % 2 ≡ 1
IsHexFaultOf NotADigit text = (length text % 2 ≡ 0) × (decoded_bytes text ≡ None)
IsHexFaultOf NoMemory text = Unit {0}

-- a byte as two digits, in lower case
abbrev pub two_digits : ℕ → List ℕ
two_digits b = digit_glyph false (b / 16) ∷ digit_glyph false (b % 16) ∷ []

-- bytes as two digits each
abbrev pub hex_digits : List ℕ → List ℕ
hex_digits [] = []
hex_digits (b ∷ s) = two_digits b ++ hex_digits s
