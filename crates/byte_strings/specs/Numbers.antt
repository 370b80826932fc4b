-- Numbers of two and of four bytes, the highest byte first.
use Rattle.std.specs.Prelude.{ℕ, ◌+◌, ◌*◌, ◌/◌, ◌%◌, List, [], ◌∷◌, slice_index}

-- the two bytes of a number below 2^16
abbrev pub be_bytes2 : ℕ → List ℕ
be_bytes2 n = (n / 256 % 256) ∷ (n % 256) ∷ []

-- the four bytes of a number below 2^32
abbrev pub be_bytes4 : ℕ → List ℕ
be_bytes4 n = (n / 16777216 % 256) ∷ (n / 65536 % 256) ∷ (n / 256 % 256) ∷ (n % 256) ∷ []

-- the byte at place `at`
abbrev pub byte_at : List ℕ → ℕ → ℕ
byte_at s at = slice_index s at

-- the number that is written in the two bytes from place `at` on
abbrev pub be_number2 : List ℕ → ℕ → ℕ
be_number2 s at = byte_at s at * 256 + byte_at s (at + 1)

-- the number that is written in the four bytes from place `at` on
abbrev pub be_number4 : List ℕ → ℕ → ℕ
be_number4 s at =
    byte_at s at * 16777216 + byte_at s (at + 1) * 65536 + byte_at s (at + 2) * 256
    + byte_at s (at + 3)
