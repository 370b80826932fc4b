-- Parts of strings of bytes are strings of bytes.
use Rattle.std.proofs.Common.{◌≡◌, ℕ, zero, suc, ◌+◌, ◌-◌, ◌<◌, ◌≤◌, List, [], ◌∷◌, ◌++◌, length, get_or, take, drop, replicate, refl, ap, ◌∙◌, arith, lit<}
use Rattle.std.proofs.lemmas.List.{length-take, length-drop, length-append, take_all, take_at, drop_at, take-append-drop}
use Rattle.byte_strings.specs.Strings.{IsBytes, IsSized}

-- in a string of bytes each place has a byte, and 0 stands for those past the end
pub at_byte : (s : List ℕ) (i : ℕ) → IsBytes s → get_or s i 0 < 256
at_byte [] i h = lit< tt
at_byte (x ∷ xs) zero h = h.0
at_byte (x ∷ xs) (suc i) h = at_byte xs i h.1

-- a string is of bytes where each place has a byte
pub bytes_at : (s : List ℕ) → ((i : ℕ) → get_or s i 0 < 256) → IsBytes s
bytes_at [] h = tt
bytes_at (x ∷ xs) h = (h 0, bytes_at xs (λ i. h (suc i)))

-- two strings of bytes, one behind the other, are a string of bytes
pub append_bytes : (s t : List ℕ) → IsBytes s → IsBytes t → IsBytes (s ++ t)
append_bytes [] t h k = k
append_bytes (x ∷ s) t h k = (h.0, append_bytes s t h.1 k)

-- the front of a string of bytes is one too
pub take_bytes : (n : ℕ) (s : List ℕ) → IsBytes s → IsBytes (take n s)
take_bytes zero s h = tt
take_bytes (suc n) [] h = tt
take_bytes (suc n) (x ∷ s) h = (h.0, take_bytes n s h.1)

-- a string of bytes without its front is one too
pub drop_bytes : (n : ℕ) (s : List ℕ) → IsBytes s → IsBytes (drop n s)
drop_bytes zero s h = h
drop_bytes (suc n) [] h = tt
drop_bytes (suc n) (x ∷ s) h = drop_bytes n s h.1

-- a byte, repeated, is a string of bytes
pub replicate_bytes : (n b : ℕ) → b < 256 → IsBytes (replicate n b)
replicate_bytes zero b h = tt
replicate_bytes (suc n) b h = (h, replicate_bytes n b h)

-- the first n of m bytes are n bytes
pub take_sized : (n m : ℕ) (s : List ℕ) → n ≤ m → IsSized m s → IsSized n (take n s)
take_sized n m s l h = (length-take n s ∙ omega (arith, h.0), take_bytes n s h.1)

-- m bytes without the first n are m - n bytes
pub drop_sized : (n m k : ℕ) (s : List ℕ) → m - n ≡ k → IsSized m s → IsSized k (drop n s)
drop_sized n m k s e h = (length-drop n s ∙ omega (arith, h.0), drop_bytes n s h.1)

-- n bytes, and m behind them, are n + m bytes
pub append_sized : (n m k : ℕ) (s t : List ℕ) → n + m ≡ k → IsSized n s → IsSized m t → IsSized k (s ++ t)
append_sized n m k s t e h j = (length-append s t ∙ omega (arith, h.0, j.0), append_bytes s t h.1 j.1)

-- k bytes from place i on, within m bytes, are k bytes
pub part_sized : (k i m : ℕ) (s : List ℕ) → i + k ≤ m → IsSized m s → IsSized k (take k (drop i s))
part_sized k i m s l h = take_sized k _ (drop i s) (omega arith) (drop_sized i m _ s refl h)

-- a string is its first a bytes and the k behind them
pub two_parts : (a k : ℕ) (s : List ℕ) → length s ≡ a + k → take a s ++ take k (drop a s) ≡ s
two_parts a k s h = ap (λ (l : List ℕ). take a s ++ l) (take_all k (drop a s) (omega (arith, length-drop a s))) ∙ take-append-drop a s

-- of n bytes and k more, the k bytes behind the first n are the last ones
pub last_part : (x y : List ℕ) (n k : ℕ) → length x ≡ n → length y ≡ k → take k (drop n (x ++ y)) ≡ y
last_part x y n k hx hy = ap (take k) (drop_at x y n hx) ∙ take_all k y (omega arith)

-- the k elements behind the first n, whatever follows them
pub middle_part : (x m y : List ℕ) (n k : ℕ) → length x ≡ n → length m ≡ k → take k (drop n (x ++ (m ++ y))) ≡ m
middle_part x m y n k hx hm = ap (take k) (drop_at x (m ++ y) n hx) ∙ take_at m y k hm
