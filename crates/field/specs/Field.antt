-- The bytes of FIPS 197 (the edition of 2023), section 4: a byte is the polynomial of its bits, in
-- the field of 256 elements, modulo 11B hexadecimal. And what sections 5.1 and 5.3 make of them.
use Rattle.std.specs.Prelude.{ℕ, zero, suc, ◌+◌, ◌-◌, ◌*◌, ◌/◌, ◌%◌, ◌^◌, if◌then◌else◌, ◌==◌}
use Rattle.std.specs.Prelude.{nat_lt, bit_xor, List, [], ◌∷◌}

-- FIPS 197, 4.2, XTIMES: the product by x, which is a shift; for an x^8 that falls out of it, 1B
-- hexadecimal is added
abbrev pub x_times : ℕ → ℕ
x_times b = if nat_lt b 128 then b * 2 else bit_xor (b * 2 - 256) 0x1b

-- k where the bit is set, and 0 where it is not
abbrev pub bit_product : ℕ → ℕ → ℕ
bit_product bit k = if bit == 0 then 0 else k

-- the sum of k x^i over those of the n low bits i of b that are 1
unfoldable pub sum_of_bits : ℕ → ℕ → ℕ → ℕ
sum_of_bits zero k b = 0
sum_of_bits (suc n) k b = bit_xor (bit_product (b % 2) k) (sum_of_bits n (x_times k) (b / 2))

-- FIPS 197, 4.2: the product of two bytes
unfoldable pub product : ℕ → ℕ → ℕ
product k b = sum_of_bits 8 k b

-- b to the power 2 + 4 + .. + 2^n
unfoldable pub even_power : ℕ → ℕ → ℕ
even_power zero b = 1
even_power (suc n) b = let s = product b b in product s (even_power n s)

-- FIPS 197, 4.4: the inverse, b to the power 254; it makes 0 of 0, as 5.1.1 has it
unfoldable pub inverse : ℕ → ℕ
inverse b = even_power 7 b

-- a byte turned left by k bits
unfoldable pub left_rotation : ℕ → ℕ → ℕ
left_rotation b k = (b * 2 ^ k) % 256 + (b * 2 ^ k) / 256

-- FIPS 197, 5.1.1, the affine map of SBOX: bit i is the sum of the bits i, i + 4, i + 5, i + 6 and
-- i + 7 of b, and of bit i of 63 hexadecimal
unfoldable pub affine_map : ℕ → ℕ
affine_map b =
    bit_xor b (bit_xor (left_rotation b 1) (bit_xor (left_rotation b 2)
    (bit_xor (left_rotation b 3) (bit_xor (left_rotation b 4) 0x63))))

-- the reverse of the affine map
unfoldable pub inv_affine_map : ℕ → ℕ
inv_affine_map b =
    bit_xor (left_rotation b 1) (bit_xor (left_rotation b 3) (bit_xor (left_rotation b 6) 0x05))

-- FIPS 197, 5.1.1, SBOX: the inverse, then the affine map
unfoldable pub s_box : ℕ → ℕ
s_box b = affine_map (inverse b)

-- FIPS 197, 5.3.2, INVSBOX: the affine map's reverse, then the inverse
unfoldable pub inv_s_box : ℕ → ℕ
inv_s_box b = inverse (inv_affine_map b)

-- what makes a byte of a column's four bytes, from its own on and round the column
abbrev pub ColumnFunction : Type 0
ColumnFunction = ℕ → ℕ → ℕ → ℕ → ℕ

-- the column whose bytes f makes of the column a, b, c, d
abbrev pub column_of : ColumnFunction → ℕ → ℕ → ℕ → ℕ → List ℕ
column_of f a b c d = f a b c d ∷ f b c d a ∷ f c d a b ∷ f d a b c ∷ []

-- FIPS 197, 5.1.3: a byte of MIXCOLUMNS
abbrev pub mixed_byte : ColumnFunction
mixed_byte a b c d = bit_xor (product 0x02 a) (bit_xor (product 0x03 b) (bit_xor c d))

-- FIPS 197, 5.3.3: a byte of INVMIXCOLUMNS
abbrev pub inv_mixed_byte : ColumnFunction
inv_mixed_byte a b c d =
    bit_xor (product 0x0e a) (bit_xor (product 0x0b b)
    (bit_xor (product 0x0d c) (product 0x09 d)))

-- what a byte gives, in MIXCOLUMNS, to the byte i places below it, round its column
abbrev pub mix_share : ℕ → ℕ → ℕ
mix_share zero b = product 0x02 b
mix_share (suc zero) b = b
mix_share (suc (suc zero)) b = b
mix_share (suc (suc (suc i))) b = product 0x03 b

-- and what it gives in INVMIXCOLUMNS
abbrev pub inv_mix_share : ℕ → ℕ → ℕ
inv_mix_share zero b = product 0x0e b
inv_mix_share (suc zero) b = product 0x09 b
inv_mix_share (suc (suc zero)) b = product 0x0d b
inv_mix_share (suc (suc (suc i))) b = product 0x0b b

-- all that a byte gives: to its own place, then to the three below it
abbrev pub shares_of : (ℕ → ℕ → ℕ) → ℕ → List ℕ
shares_of share b = share 0 b ∷ share 1 b ∷ share 2 b ∷ share 3 b ∷ []

-- a mixed byte, as the sum of the shares that the column's bytes give it
abbrev pub sum_of_shares : (ℕ → ℕ → ℕ) → ColumnFunction
sum_of_shares share a b c d =
    bit_xor (share 0 a) (bit_xor (share 3 b) (bit_xor (share 2 c) (share 1 d)))
