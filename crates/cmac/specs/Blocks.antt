-- Blocks of 16 bytes as numbers of 128 bits, the first byte highest.
use Rattle.std.specs.Prelude.{ℕ, zero, suc, ◌+◌, ◌*◌, ◌/◌, ◌%◌, ◌^◌, List, [], ◌∷◌, bit_xor}
use Rattle.std.specs.Prelude.{slice_index}

-- the number that the first n bytes of a string write
abbrev pub number_of : ℕ → List ℕ → ℕ
number_of zero s = 0
number_of (suc n) s = number_of n s * 256 + slice_index s n

-- the last n bytes of a number
abbrev pub bytes_of : ℕ → ℕ → List ℕ
bytes_of zero v = []
bytes_of (suc n) v = v / 256 ^ n % 256 ∷ bytes_of n v

-- a number times x in the field of 2^128 elements: a shift, and for a bit that falls out, 0x87 is
-- added, const_Rb of RFC 4493, 2.3
abbrev pub times_x : ℕ → ℕ
times_x v = bit_xor ((v * 2) % 2 ^ 128) (v / 2 ^ 127 * 0x87)

-- RFC 5297, 2.3, dbl: a block times x
unfoldable pub dbl : List ℕ → List ℕ
dbl b = bytes_of 16 (times_x (number_of 16 b))
