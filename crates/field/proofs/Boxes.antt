-- The two boxes undo each other, and the inverse is one: each by a test at 256 numbers.
use mathlib.Core.Path.{◌≡◌, refl}
use mathlib.Core.Bool.{cond}
use Prim.Native.Nat.{ℕ, ◌<◌}
use lib.Dec.{eqb}
use Rattle.field.specs.Field.{sum_of_bits, product, even_power, inverse, left_rotation, affine_map, inv_affine_map, s_box, inv_s_box}
use Rattle.field.specs.Laws.{BoxExamplesHold}
use Rattle.field.proofs.Tests.{agree, stays}

-- INVSBOX undoes SBOX
pub inv_s_box_undoes : (b : ℕ) → b < 256 → inv_s_box (s_box b) ≡ b
unfolding sum_of_bits product even_power inverse left_rotation affine_map inv_affine_map s_box inv_s_box
inv_s_box_undoes = agree (λ b. inv_s_box (s_box b)) (λ b. b) tt

-- SBOX undoes INVSBOX
pub s_box_undoes : (b : ℕ) → b < 256 → s_box (inv_s_box b) ≡ b
unfolding sum_of_bits product even_power inverse left_rotation affine_map inv_affine_map s_box inv_s_box
s_box_undoes = agree (λ b. s_box (inv_s_box b)) (λ b. b) tt

-- a byte other than 0 times its inverse is 1, and 0 times its own is 0
pub inverse_inverts : (b : ℕ) → b < 256 → product b (inverse b) ≡ cond (eqb b 0) 0 1
unfolding sum_of_bits product even_power inverse
inverse_inverts = agree (λ b. product b (inverse b)) (λ b. cond (eqb b 0) 0 1) tt

-- SBOX makes a byte of a byte
pub s_box_byte : (b : ℕ) → b < 256 → s_box b < 256
unfolding sum_of_bits product even_power inverse left_rotation affine_map s_box
s_box_byte = stays s_box tt

-- INVSBOX makes a byte of a byte
pub inv_s_box_byte : (b : ℕ) → b < 256 → inv_s_box b < 256
unfolding sum_of_bits product even_power inverse left_rotation inv_affine_map inv_s_box
inv_s_box_byte = stays inv_s_box tt

-- two entries of the standard's table of the S-box
pub box_examples : BoxExamplesHold
unfolding sum_of_bits product even_power inverse left_rotation affine_map s_box
box_examples = (refl, refl)
