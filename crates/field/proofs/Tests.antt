-- A test that antt computes at each number below a bound, or at each entry of a table, carried to any one of them.
use mathlib.Core.Path.{◌≡◌, ◌∙◌, subst, sym}
use mathlib.Core.Bool.{Bool, true, false}
use mathlib.Core.List.{List, [], ◌∷◌}
use Prim.Native.Nat.{ℕ, zero, suc, ◌+◌, ◌<◌}
use native.Mathlib.Nat.{add-zero, zero-add, add-suc, suc-add, le_of_suc-le-suc, not-suc-le-zero}
use lib.Dec.{T, eqb, ltb, eqb→eq, ltb→lt}
use lib.ListN.{length, get_or}

-- do both hold? The second is not looked at where the first fails
abbrev pub both_hold : Bool → Bool → Bool
both_hold true b = b
both_hold false b = false

-- where both hold, the first does
pub both_left : (a b : Bool) → T (both_hold a b) → T a
both_left true b t = tt
both_left false b t = t

-- where both hold, the second does
pub both_right : (a b : Bool) → T (both_hold a b) → T b
both_right true b t = t
both_right false b t = absurd t

-- the test passes at each entry of a table, the first at place i
abbrev pub holds_at_entries : (ℕ → ℕ → Bool) → ℕ → List ℕ → Bool
holds_at_entries f i [] = true
holds_at_entries f i (x ∷ xs) = both_hold (f i x) (holds_at_entries f (suc i) xs)

-- a test of all entries, the first at place i, passes at each of them
holds_from_entry : (f : ℕ → ℕ → Bool) (xs : List ℕ) (i : ℕ) → T (holds_at_entries f i xs) → (k : ℕ) → k < length xs → T (f (i + k) (get_or xs k 0))
holds_from_entry f [] i t k h = absurd (not-suc-le-zero h)
holds_from_entry f (x ∷ xs) i t zero h = subst (λ (m : ℕ). T (f m x)) (sym (add-zero i)) (both_left (f i x) (holds_at_entries f (suc i) xs) t)
holds_from_entry f (x ∷ xs) i t (suc k) h =
    subst (λ (m : ℕ). T (f m (get_or xs k 0))) (suc-add i k ∙ sym (add-suc i k))
    (holds_from_entry f xs (suc i) (both_right (f i x) (holds_at_entries f (suc i) xs) t) k (le_of_suc-le-suc h))

-- a test of all entries, the first at place 0, passes at each of them
pub holds_at_entry : (f : ℕ → ℕ → Bool) (xs : List ℕ) → T (holds_at_entries f 0 xs) → (k : ℕ) → k < length xs → T (f k (get_or xs k 0))
holds_at_entry f xs t k h = subst (λ (m : ℕ). T (f m (get_or xs k 0))) (zero-add k) (holds_from_entry f xs 0 t k h)

-- the test passes at each number of i, .., i + n - 1
abbrev pub holds_at_numbers : (ℕ → Bool) → ℕ → ℕ → Bool
holds_at_numbers f i zero = true
holds_at_numbers f i (suc n) = both_hold (f i) (holds_at_numbers f (suc i) n)

-- a test that passes at i, .., i + n - 1 passes at each of them
all_from : (f : ℕ → Bool) (n i : ℕ) → T (holds_at_numbers f i n) → (k : ℕ) → k < n → T (f (i + k))
all_from f zero i t k h = absurd (not-suc-le-zero h)
all_from f (suc n) i t zero h = subst (λ (m : ℕ). T (f m)) (sym (add-zero i)) (both_left (f i) (holds_at_numbers f (suc i) n) t)
all_from f (suc n) i t (suc k) h =
    subst (λ (m : ℕ). T (f m)) (suc-add i k ∙ sym (add-suc i k))
    (all_from f n (suc i) (both_right (f i) (holds_at_numbers f (suc i) n) t) k (le_of_suc-le-suc h))

-- a test that passes at all 256 bytes passes at each of them
pub holds_at_byte : (f : ℕ → Bool) → T (holds_at_numbers f 0 256) → (k : ℕ) → k < 256 → T (f k)
holds_at_byte f t k h = subst (λ (m : ℕ). T (f m)) (zero-add k) (all_from f 256 0 t k h)

-- two functions that agree at each of the 256 bytes
pub agree : (f g : ℕ → ℕ) → T (holds_at_numbers (λ k. eqb (f k) (g k)) 0 256) → (b : ℕ) → b < 256 → f b ≡ g b
agree f g t b h = eqb→eq (f b) (g b) (holds_at_byte (λ k. eqb (f k) (g k)) t b h)

-- a function whose value at each byte is a byte
pub stays : (f : ℕ → ℕ) → T (holds_at_numbers (λ k. ltb (f k) 256) 0 256) → (b : ℕ) → b < 256 → f b < 256
stays f t b h = ltb→lt (f b) 256 (holds_at_byte (λ k. ltb (f k) 256) t b h)
