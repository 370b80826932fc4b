-- Strings of bytes, as lists of numbers.
use Rattle.std.specs.Prelude.{◌≡◌, ℕ, ◌<◌, Bool, true, false, ◌&&◌, List, [], ◌∷◌, ◌++◌}
use Rattle.std.specs.Prelude.{length, take, drop, ◌==◌, bit_xor}

-- each number is a byte, below 256
abbrev pub IsBytes : List ℕ → Type 0
IsBytes [] = Unit {0}
IsBytes (x ∷ xs) = (x < 256) × IsBytes xs

-- a string of n bytes
abbrev pub IsSized : ℕ → List ℕ → Type 0
IsSized n s = (length s ≡ n) × IsBytes s

-- exclusive or, byte by byte; where the second string is shorter, the rest of the first stays
abbrev pub xors : List ℕ → List ℕ → List ℕ
xors [] ys = []
xors (x ∷ xs) [] = x ∷ xs
xors (x ∷ xs) (y ∷ ys) = bit_xor x y ∷ xors xs ys

-- xs with ys written over it, from place `at` on
abbrev pub overlay : List ℕ → ℕ → List ℕ → List ℕ
overlay xs at ys = take at xs ++ (ys ++ drop (length ys) (drop at xs))

-- the n bytes from place `at` on
abbrev pub part : ℕ → ℕ → List ℕ → List ℕ
part n at xs = take n (drop at xs)

-- are the two strings the same, in length and in each byte?
abbrev pub is_same : List ℕ → List ℕ → Bool
is_same [] [] = true
is_same [] (y ∷ ys) = false
is_same (x ∷ xs) [] = false
is_same (x ∷ xs) (y ∷ ys) = x == y && is_same xs ys
