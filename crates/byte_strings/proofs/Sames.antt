-- The comparison of strings.
use Rattle.std.proofs.Common.{◌≡◌, ℕ, zero, suc, Bool, true, false, ◌&&◌, eqb, List, [], ◌∷◌, length, sym, refl, ap, ◌∙◌, ap₂, arith, eq-eqb, ne_eqb, eqb-true}
use mathlib.Core.Bool.{and_assoc, and-true}
use lib.Bits.{bit_xor, bit_or, or_add_and, and_le_r, xor_assoc, xor_self, xor_zero_r}
use borrow.Author.Tests.{eqb-false}
use Rattle.std.specs.List.{fold, zip}
use Rattle.byte_strings.specs.Strings.{is_same}

-- where the conjunction is true, both sides are
and_both : (a b : Bool) → a && b ≡ true → (a ≡ true) × (b ≡ true)
and_both true b e = (refl, e)
and_both false b e = let z : ◌≡◌ {A = ℕ} 0 1 = cc in absurd (omega arith)

-- strings that compare as the same are the same
pub same_lists : (xs ys : List ℕ) → is_same xs ys ≡ true → xs ≡ ys
same_lists [] [] e = refl
same_lists [] (y ∷ ys) e = let z : ◌≡◌ {A = ℕ} 0 1 = cc in absurd (omega arith)
same_lists (x ∷ xs) [] e = let z : ◌≡◌ {A = ℕ} 0 1 = cc in absurd (omega arith)
same_lists (x ∷ xs) (y ∷ ys) e =
    let p = and_both (eqb x y) (is_same xs ys) e in
    ap₂ (λ (a : ℕ) (l : List ℕ). a ∷ l) (eqb-true x y p.0) (same_lists xs ys p.1)

-- a string compares as the same as itself
pub same_self : (s : List ℕ) → is_same s s ≡ true
same_self [] = refl
same_self (x ∷ s) = rw (eq-eqb x x refl) (same_self s)

-- strings that are not the same compare as different
pub unlike : (xs ys : List ℕ) → (xs ≡ ys → ⊥) → is_same xs ys ≡ false
unlike xs ys n = go (is_same xs ys) refl
  where
    go : (b : Bool) → is_same xs ys ≡ b → b ≡ false
    go false e = refl
    go true e = absurd (n (same_lists xs ys e))

-- The bits in which pairs of bytes differ, gathered in one byte.

-- a number other than 0 has a bit, which stays whatever bits are gathered to it
nonzero : (d z : ℕ) → bit_or (suc d) z ≡ 0 → ⊥
nonzero d z e = omega (arith, and_le_r (suc d) z, or_add_and (suc d) z)

-- two numbers that differ in no bit are the same
xor_same : (x y : ℕ) → bit_xor x y ≡ 0 → x ≡ y
xor_same x y e = sym (xor_assoc x y y ∙ ap (bit_xor x) (xor_self y) ∙ xor_zero_r x) ∙ ap (λ (z : ℕ). bit_xor z y) e

-- two numbers differ in no bit just where they are the same
xor_test : (x y : ℕ) → eqb (bit_xor x y) 0 ≡ eqb x y
xor_test x y = go (eqb x y) refl
  where
    go : (b : Bool) → eqb x y ≡ b → eqb (bit_xor x y) 0 ≡ b
    go true e = eq-eqb (bit_xor x y) 0 (ap (λ (z : ℕ). bit_xor z y) (eqb-true x y e) ∙ xor_self y)
    go false e = ne_eqb (bit_xor x y) 0 (λ z. eqb-false x y e (xor_same x y z))

-- with one pair more, no bits are gathered just where none were and the pair is the same
gathered : (d x y : ℕ) → eqb (bit_or d (bit_xor x y)) 0 ≡ eqb d 0 && eqb x y
gathered zero x y = xor_test x y
gathered (suc d) x y =
    ne_eqb (bit_or (suc d) (bit_xor x y)) 0 (nonzero d (bit_xor x y))
    ∙ ap (λ (t : Bool). t && eqb x y) (sym (ne_eqb (suc d) 0 (λ e. omega arith)))

-- the bits gathered so far are none, and the strings are the same
gathered_all : (d : ℕ) (a b : List ℕ) → length a ≡ length b → eqb (fold (λ bits p. bit_or bits (bit_xor p.0 p.1)) d (zip a b)) 0 ≡ eqb d 0 && is_same a b
gathered_all d [] [] h = sym (and-true (eqb d 0))
gathered_all d [] (y ∷ b) h = absurd (omega arith)
gathered_all d (x ∷ a) [] h = absurd (omega arith)
gathered_all d (x ∷ a) (y ∷ b) h =
    gathered_all (bit_or d (bit_xor x y)) a b (omega arith)
    ∙ ap (λ (t : Bool). t && is_same a b) (gathered d x y)
    ∙ and_assoc (eqb d 0) (eqb x y) (is_same a b)

-- strings of one length are the same where no bit differs in any place
pub same_gathered : (a b : List ℕ) → length a ≡ length b → is_same a b ≡ eqb (fold (λ bits p. bit_or bits (bit_xor p.0 p.1)) 0 (zip a b)) 0
same_gathered a b h = sym (gathered_all 0 a b h)

-- strings of two lengths compare as different
pub same_uneven : (a b : List ℕ) → (length a ≡ length b → ⊥) → is_same a b ≡ false
same_uneven a b n = unlike a b (λ e. n (ap length e))
