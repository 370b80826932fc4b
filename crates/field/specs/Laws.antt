-- The laws of the field that the cipher stands on.
use Rattle.std.specs.Prelude.{if◌then◌else◌, ◌≡◌, ℕ, ◌<◌, ◌==◌, bit_xor}
use Rattle.field.specs.Field.{product, inverse, s_box, inv_s_box, mixed_byte, inv_mixed_byte}

-- each S-box undoes the other
abbrev pub BoxesUndo : Type 0
BoxesUndo = (b : ℕ) → b < 256 → (inv_s_box (s_box b) ≡ b) × (s_box (inv_s_box b) ≡ b)

-- FIPS 197, 4.4: a byte other than 0 times its inverse is 1
abbrev pub InverseInverts : Type 0
InverseInverts = (b : ℕ) → b < 256 → product b (inverse b) ≡ (if b == 0 then 0 else 1)

-- the product of a byte with a sum is the sum of the products
abbrev pub ProductDistributes : Type 0
ProductDistributes =
    (k x y : ℕ) → product k (bit_xor x y) ≡ bit_xor (product k x) (product k y)

-- on a column, MIXCOLUMNS and INVMIXCOLUMNS undo each other
abbrev pub ColumnsUndo : Type 0
ColumnsUndo = (a b c d : ℕ) → a < 256 → b < 256 → c < 256 → d < 256
    → (inv_mixed_byte (mixed_byte a b c d) (mixed_byte b c d a)
    (mixed_byte c d a b) (mixed_byte d a b c) ≡ a)
    × (mixed_byte (inv_mixed_byte a b c d) (inv_mixed_byte b c d a)
    (inv_mixed_byte c d a b) (inv_mixed_byte d a b c) ≡ a)

-- FIPS 197, 5.1.1: two entries of the standard's table of the S-box, the second its example
abbrev pub BoxExamplesHold : Type 0
BoxExamplesHold = (s_box 0x00 ≡ 0x63) × (s_box 0x53 ≡ 0xed)
