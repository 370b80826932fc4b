-- The product is linear over sums, and so is what is made of products and sums of a column's four bytes.
use mathlib.Core.Path.{◌≡◌, refl, sym, ap, ap₂, ◌∙◌}
use Prim.Native.Nat.{ℕ, zero, suc, ◌<◌, ◌/◌, ◌%◌}
use native.Mathlib.Omega.{arith}
use lib.Bits.{bit_xor, xor_zero_r, xor_self, xor_comm, xor_assoc, xor_shr, xor_mod, xor_lt}
use lib.Dec.{eqb, lit<}
use mathlib.Core.Bool.{Bool, true, false, cond}
use Rattle.field.specs.Field.{x_times, bit_product, sum_of_bits, product, ColumnFunction}
use Rattle.field.proofs.Tests.{stays}

-- in a sum of two sums, the two terms in the middle change places
medial : (p q r s : ℕ) → bit_xor (bit_xor p q) (bit_xor r s) ≡ bit_xor (bit_xor p r) (bit_xor q s)
medial p q r s =
    xor_assoc p q (bit_xor r s)
    ∙ ap (bit_xor p) (sym (xor_assoc q r s) ∙ ap (λ (x : ℕ). bit_xor x s) (xor_comm q r) ∙ xor_assoc r q s)
    ∙ sym (xor_assoc p r (bit_xor q s))

-- 2 or more is no bit
not_bit : {n : ℕ} {A : Type 0} → suc (suc n) < 2 → A
not_bit h = absurd (omega arith)

-- k by the sum of two bits is the sum of k by each
scaled_xor : (a b k : ℕ) → a < 2 → b < 2 → bit_product (bit_xor a b) k ≡ bit_xor (bit_product a k) (bit_product b k)
scaled_xor zero b k ha hb = refl
scaled_xor (suc zero) zero k ha hb = sym (xor_zero_r k)
scaled_xor (suc zero) (suc zero) k ha hb = sym (xor_self k)
scaled_xor (suc zero) (suc (suc b)) k ha hb = not_bit hb
scaled_xor (suc (suc a)) b k ha hb = not_bit ha

-- what the bits of a sum choose is the sum of what the bits of each term choose
sum_xor : (n k x y : ℕ) → sum_of_bits n k (bit_xor x y) ≡ bit_xor (sum_of_bits n k x) (sum_of_bits n k y)
unfolding sum_of_bits
sum_xor zero k x y = refl
sum_xor (suc n) k x y =
    ap₂ (λ (u v : ℕ). bit_xor (bit_product u k) (sum_of_bits n (x_times k) v)) (xor_mod x y 1) (xor_shr x y 1)
    ∙ ap₂ bit_xor (scaled_xor (x % 2) (y % 2) k (omega arith) (omega arith)) (sum_xor n (x_times k) (x / 2) (y / 2))
    ∙ medial (bit_product (x % 2) k) (bit_product (y % 2) k) (sum_of_bits n (x_times k) (x / 2)) (sum_of_bits n (x_times k) (y / 2))

-- the product of a byte with a sum is the sum of the products
pub product_xor : (k x y : ℕ) → product k (bit_xor x y) ≡ bit_xor (product k x) (product k y)
unfolding product
product_xor k x y = sum_xor 8 k x y

-- the product of a byte by x is a byte
pub x_times_byte : (b : ℕ) → b < 256 → x_times b < 256
x_times_byte = stays x_times tt

-- a byte by a bit is a byte
scaled_byte : (a k : ℕ) → k < 256 → bit_product a k < 256
scaled_byte a k h = go (eqb a 0)
  where
    go : (t : Bool) → cond t 0 k < 256
    go true = lit< tt
    go false = h

-- what any bits choose of the multiples of a byte by powers of x is a byte
sum_byte : (n k x : ℕ) → k < 256 → sum_of_bits n k x < 256
unfolding sum_of_bits
sum_byte zero k x h = lit< tt
sum_byte (suc n) k x h =
    xor_lt 8 (bit_product (x % 2) k) (sum_of_bits n (x_times k) (x / 2)) (scaled_byte (x % 2) k h) (sum_byte n (x_times k) (x / 2) (x_times_byte k h))

-- the product of a byte with any number is a byte
pub product_byte : (k x : ℕ) → k < 256 → product k x < 256
unfolding product
product_byte k x h = sum_byte 8 k x h

-- f of a sum of two columns is the sum of what it makes of each
abbrev pub IsLinear : ColumnFunction → Type 0
IsLinear f = (a b c d a' b' c' d' : ℕ) → f (bit_xor a a') (bit_xor b b') (bit_xor c c') (bit_xor d d') ≡ bit_xor (f a b c d) (f a' b' c' d')

-- of a column, from a byte on and round: that byte
abbrev pub first_byte : ColumnFunction
first_byte a b c d = a

-- the byte below it
abbrev pub second_byte : ColumnFunction
second_byte a b c d = b

-- the byte two places below
abbrev pub third_byte : ColumnFunction
third_byte a b c d = c

-- the byte three places below, which is the one above
abbrev pub fourth_byte : ColumnFunction
fourth_byte a b c d = d

-- what f makes and what g makes, added
abbrev pub sum : ColumnFunction → ColumnFunction → ColumnFunction
sum f g a b c d = bit_xor (f a b c d) (g a b c d)

-- what f makes, times the byte k
abbrev pub multiple : ℕ → ColumnFunction → ColumnFunction
multiple k f a b c d = product k (f a b c d)

-- g after f, each taken round the column
abbrev pub composition : ColumnFunction → ColumnFunction → ColumnFunction
composition g f a b c d = g (f a b c d) (f b c d a) (f c d a b) (f d a b c)

-- the sum of two linear functions is linear
pub sum_linear : (f g : ColumnFunction) → IsLinear f → IsLinear g → IsLinear (sum f g)
sum_linear f g lf lg a b c d a' b' c' d' =
    ap₂ bit_xor (lf a b c d a' b' c' d') (lg a b c d a' b' c' d') ∙ medial (f a b c d) (f a' b' c' d') (g a b c d) (g a' b' c' d')

-- a multiple of a linear function is linear
pub times_linear : (k : ℕ) (f : ColumnFunction) → IsLinear f → IsLinear (multiple k f)
times_linear k f lf a b c d a' b' c' d' = ap (product k) (lf a b c d a' b' c' d') ∙ product_xor k (f a b c d) (f a' b' c' d')

-- one linear function after another is linear
pub after_linear : (g f : ColumnFunction) → IsLinear g → IsLinear f → IsLinear (composition g f)
after_linear g f lg lf a b c d a' b' c' d' =
    (λ i. g (lf a b c d a' b' c' d' i) (lf b c d a b' c' d' a' i) (lf c d a b c' d' a' b' i) (lf d a b c d' a' b' c' i))
    ∙ lg (f a b c d) (f b c d a) (f c d a b) (f d a b c) (f a' b' c' d') (f b' c' d' a') (f c' d' a' b') (f d' a' b' c')

-- f of a column is the sum of what it makes of each byte alone
apart : (f : ColumnFunction) → IsLinear f → (a b c d : ℕ) → f a b c d ≡ bit_xor (f a 0 0 0) (bit_xor (f 0 b 0 0) (bit_xor (f 0 0 c 0) (f 0 0 0 d)))
apart f l a b c d =
    ap (λ (x : ℕ). f x b c d) (sym (xor_zero_r a))
    ∙ l a 0 0 0 0 b c d
    ∙ ap (bit_xor (f a 0 0 0))
    (ap (λ (x : ℕ). f 0 x c d) (sym (xor_zero_r b))
    ∙ l 0 b 0 0 0 0 c d
    ∙ ap (bit_xor (f 0 b 0 0)) (ap (λ (x : ℕ). f 0 0 x d) (sym (xor_zero_r c)) ∙ l 0 0 c 0 0 0 0 d))

-- two linear functions agree, if they do where one of the four bytes alone is not 0
pub alike : (f g : ColumnFunction) → IsLinear f → IsLinear g
    → ((k : ℕ) → k < 256 → f k 0 0 0 ≡ g k 0 0 0) → ((k : ℕ) → k < 256 → f 0 k 0 0 ≡ g 0 k 0 0)
    → ((k : ℕ) → k < 256 → f 0 0 k 0 ≡ g 0 0 k 0) → ((k : ℕ) → k < 256 → f 0 0 0 k ≡ g 0 0 0 k)
    → (a b c d : ℕ) → a < 256 → b < 256 → c < 256 → d < 256 → f a b c d ≡ g a b c d
alike f g lf lg pa pb pc pd a b c d ha hb hc hd =
    apart f lf a b c d
    ∙ (λ i. bit_xor (pa a ha i) (bit_xor (pb b hb i) (bit_xor (pc c hc i) (pd d hd i))))
    ∙ sym (apart g lg a b c d)
