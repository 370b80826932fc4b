-- The bytes of MIXCOLUMNS and INVMIXCOLUMNS are linear, so what is claimed of them is tested one byte at a time.
use mathlib.Core.Path.{◌≡◌, refl}
use Prim.Native.Nat.{ℕ, ◌<◌}
use lib.Bits.{bit_xor, xor_lt}
use lib.Dec.{lit<}
use Rattle.field.specs.Field.{sum_of_bits, product, mixed_byte, inv_mixed_byte}
use Rattle.field.proofs.Tests.{agree}
use Rattle.field.proofs.Linear.{IsLinear, first_byte, second_byte, third_byte, fourth_byte, sum, multiple, composition, sum_linear, times_linear, after_linear}
use Rattle.field.proofs.Linear.{alike, product_byte}

-- a column's byte is linear in the column
first_linear : IsLinear first_byte
first_linear a b c d a' b' c' d' = refl

-- so is the byte below it
second_linear : IsLinear second_byte
second_linear a b c d a' b' c' d' = refl

-- the byte two places below
third_linear : IsLinear third_byte
third_linear a b c d a' b' c' d' = refl

-- and the byte three places below
fourth_linear : IsLinear fourth_byte
fourth_linear a b c d a' b' c' d' = refl

-- a byte of MIXCOLUMNS is linear in the column
mix_linear : IsLinear mixed_byte
mix_linear =
    sum_linear (multiple 2 first_byte) (sum (multiple 3 second_byte) (sum third_byte fourth_byte)) (times_linear 2 first_byte first_linear)
    (sum_linear (multiple 3 second_byte) (sum third_byte fourth_byte) (times_linear 3 second_byte second_linear)
    (sum_linear third_byte fourth_byte third_linear fourth_linear))

-- a byte of INVMIXCOLUMNS is linear in the column
inv_mix_linear : IsLinear inv_mixed_byte
inv_mix_linear =
    sum_linear (multiple 14 first_byte) (sum (multiple 11 second_byte) (sum (multiple 13 third_byte) (multiple 9 fourth_byte)))
    (times_linear 14 first_byte first_linear)
    (sum_linear (multiple 11 second_byte) (sum (multiple 13 third_byte) (multiple 9 fourth_byte)) (times_linear 11 second_byte second_linear)
    (sum_linear (multiple 13 third_byte) (multiple 9 fourth_byte) (times_linear 13 third_byte third_linear) (times_linear 9 fourth_byte fourth_linear)))

-- on a column, INVMIXCOLUMNS undoes MIXCOLUMNS
pub inv_mix_mix : (a b c d : ℕ) → a < 256 → b < 256 → c < 256 → d < 256
    → inv_mixed_byte (mixed_byte a b c d) (mixed_byte b c d a) (mixed_byte c d a b) (mixed_byte d a b c) ≡ a
unfolding sum_of_bits product
inv_mix_mix = alike (composition inv_mixed_byte mixed_byte) first_byte (after_linear inv_mixed_byte mixed_byte inv_mix_linear mix_linear) first_linear
    (agree (λ k. composition inv_mixed_byte mixed_byte k 0 0 0) (λ k. k) tt)
    (agree (λ k. composition inv_mixed_byte mixed_byte 0 k 0 0) (λ k. 0) tt)
    (agree (λ k. composition inv_mixed_byte mixed_byte 0 0 k 0) (λ k. 0) tt)
    (agree (λ k. composition inv_mixed_byte mixed_byte 0 0 0 k) (λ k. 0) tt)

-- on a column, MIXCOLUMNS undoes INVMIXCOLUMNS
pub mix_inv_mix : (a b c d : ℕ) → a < 256 → b < 256 → c < 256 → d < 256
    → mixed_byte (inv_mixed_byte a b c d) (inv_mixed_byte b c d a) (inv_mixed_byte c d a b) (inv_mixed_byte d a b c) ≡ a
unfolding sum_of_bits product
mix_inv_mix = alike (composition mixed_byte inv_mixed_byte) first_byte (after_linear mixed_byte inv_mixed_byte mix_linear inv_mix_linear) first_linear
    (agree (λ k. composition mixed_byte inv_mixed_byte k 0 0 0) (λ k. k) tt)
    (agree (λ k. composition mixed_byte inv_mixed_byte 0 k 0 0) (λ k. 0) tt)
    (agree (λ k. composition mixed_byte inv_mixed_byte 0 0 k 0) (λ k. 0) tt)
    (agree (λ k. composition mixed_byte inv_mixed_byte 0 0 0 k) (λ k. 0) tt)

-- MIXCOLUMNS makes a byte where the two bytes that it does not multiply are bytes
pub mix_byte_lem : (a b c d : ℕ) → c < 256 → d < 256 → mixed_byte a b c d < 256
mix_byte_lem a b c d hc hd =
    xor_lt 8 (product 2 a) (bit_xor (product 3 b) (bit_xor c d)) (product_byte 2 a (lit< tt))
    (xor_lt 8 (product 3 b) (bit_xor c d) (product_byte 3 b (lit< tt)) (xor_lt 8 c d hc hd))

-- INVMIXCOLUMNS makes a byte of any four numbers
pub inv_mix_byte_lem : (a b c d : ℕ) → inv_mixed_byte a b c d < 256
inv_mix_byte_lem a b c d =
    xor_lt 8 (product 14 a) (bit_xor (product 11 b) (bit_xor (product 13 c) (product 9 d))) (product_byte 14 a (lit< tt))
    (xor_lt 8 (product 11 b) (bit_xor (product 13 c) (product 9 d)) (product_byte 11 b (lit< tt))
    (xor_lt 8 (product 13 c) (product 9 d) (product_byte 13 c (lit< tt)) (product_byte 9 d (lit< tt))))
