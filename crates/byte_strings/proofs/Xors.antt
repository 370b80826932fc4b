-- Exclusive or of strings: it undoes itself, keeps lengths and bytes, and goes along parts.
use Rattle.std.proofs.Common.{◌≡◌, ℕ, zero, suc, ◌+◌, ◌<◌, ◌≤◌, min, List, [], ◌∷◌, ◌++◌, length, get_or, take, drop, set, sym, refl, ap, ◌∙◌, ap₂, add-one}
use Rattle.std.proofs.Common.{arith}
use lib.Bits.{bit_xor, xor_zero_r, xor_self, xor_assoc, xor_lt}
use Rattle.byte_strings.specs.Strings.{IsBytes, IsSized, xors}
use Rattle.byte_strings.proofs.Writes.{write_more, read_here}

-- a number that is added twice is gone
xor_undo : (x y : ℕ) → bit_xor (bit_xor x y) y ≡ x
xor_undo x y = xor_assoc x y y ∙ ap (bit_xor x) (xor_self y) ∙ xor_zero_r x

-- a string that is added twice is gone
pub xors_xors : (s k : List ℕ) → xors (xors s k) k ≡ s
xors_xors [] k = refl
xors_xors (x ∷ xs) [] = refl
xors_xors (x ∷ xs) (y ∷ ys) = ap₂ (λ (a : ℕ) (l : List ℕ). a ∷ l) (xor_undo x y) (xors_xors xs ys)

-- adding the empty string changes nothing
pub xors_nil : (s : List ℕ) → xors s [] ≡ s
xors_nil [] = refl
xors_nil (x ∷ xs) = refl

-- a sum is as long as its first string
pub xors_length : (s k : List ℕ) → length (xors s k) ≡ length s
xors_length [] k = refl
xors_length (x ∷ xs) [] = refl
xors_length (x ∷ xs) (y ∷ ys) = ap suc (xors_length xs ys)

-- the sum of two strings of bytes is one too
pub xors_bytes : (s k : List ℕ) → IsBytes s → IsBytes k → IsBytes (xors s k)
xors_bytes [] k hs hk = tt
xors_bytes (x ∷ xs) [] hs hk = hs
xors_bytes (x ∷ xs) (y ∷ ys) hs hk = (xor_lt 8 x y hs.0 hk.0, xors_bytes xs ys hs.1 hk.1)

-- n bytes to which bytes are added are n bytes
pub xors_sized : (n : ℕ) (s k : List ℕ) → IsSized n s → IsBytes k → IsSized n (xors s k)
xors_sized n s k h hk = (xors_length s k ∙ h.0, xors_bytes s k h.1 hk)

-- a sum with two strings in a row is one with the first, and then with the second further on
pub xors_append : (t a b : List ℕ) → xors t (a ++ b) ≡ take (length a) (xors t a) ++ xors (drop (length a) (xors t a)) b
xors_append [] [] b = refl
xors_append [] (x ∷ a) b = refl
xors_append (y ∷ t) [] b = refl
xors_append (y ∷ t) (x ∷ a) b = ap (λ l. bit_xor y x ∷ l) (xors_append t a b)

-- the loop that adds x to s: the places below i are done
pub xors_front : List ℕ → List ℕ → ℕ → List ℕ
xors_front s x i = xors (take i s) (take i x) ++ drop i s

-- at first no place is done
pub front_none : (s x : List ℕ) → s ≡ xors_front s x 0
unfolding xors_front
front_none s x = refl

-- one place more of a sum
xors_suc : (xs ys : List ℕ) (i : ℕ) → i < length xs → i < length ys
    → xors (take (suc i) xs) (take (suc i) ys) ≡ xors (take i xs) (take i ys) ++ (bit_xor (get_or xs i 0) (get_or ys i 0) ∷ [])
xors_suc [] ys i h k = absurd (omega arith)
xors_suc (x ∷ xs) [] i h k = absurd (omega arith)
xors_suc (x ∷ xs) (y ∷ ys) zero h k = refl
xors_suc (x ∷ xs) (y ∷ ys) (suc i) h k = ap (λ l. bit_xor x y ∷ l) (xors_suc xs ys i (omega arith) (omega arith))

-- up to place i, the sum has i places
front_length : (xs ys : List ℕ) (i : ℕ) → i ≤ length xs → length (xors (take i xs) (take i ys)) ≡ i
front_length xs ys zero h = refl
front_length [] ys (suc i) h = absurd (omega arith)
front_length (x ∷ xs) [] (suc i) h = ap suc (sym (xors_length (take i xs) (take i [])) ∙ front_length xs [] i (omega arith))
front_length (x ∷ xs) (y ∷ ys) (suc i) h = ap suc (front_length xs ys i (omega arith))

-- one place more is done
pub front_more : (s x out : List ℕ) (i : ℕ) → out ≡ xors_front s x i → i < length s → i < length x
    → set out i (bit_xor (get_or out i 0) (get_or x i 0)) ≡ xors_front s x (i + 1)
unfolding xors_front
front_more s x out i e h k =
    let P = xors (take i s) (take i x) in
    let lp : length P ≡ i = front_length s x i (omega arith) in
    (λ j. set (e j) i (bit_xor (get_or (e j) i 0) (get_or x i 0)))
    ∙ ap (λ v. set (P ++ drop i s) i (bit_xor v (get_or x i 0))) (read_here P s i lp h)
    ∙ write_more P s i _ lp h
    ∙ ap (λ l. l ++ drop (i + 1) s) (sym (ap (λ n. xors (take n s) (take n x)) (add-one i) ∙ xors_suc s x i h k))

-- the string ends first, or what is added does
pub front_all : (s x : List ℕ) (i : ℕ) → i ≡ min (length s) (length x) → xors_front s x i ≡ xors s x
unfolding xors_front
front_all [] x zero e = refl
front_all [] x (suc i) e = absurd (omega arith)
front_all (y ∷ s) [] zero e = refl
front_all (y ∷ s) [] (suc i) e = absurd (omega arith)
front_all (y ∷ s) (x ∷ xs) zero e = absurd (omega arith)
front_all (y ∷ s) (x ∷ xs) (suc i) e = ap (λ l. bit_xor y x ∷ l) (front_all s xs i (omega arith))
