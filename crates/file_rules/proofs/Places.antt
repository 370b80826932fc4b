-- What stands at a place of a string where a known list stands, and numbers read back from their bytes.
use Rattle.std.proofs.Common.{◌≡◌, ℕ, ◌+◌, ◌*◌, ◌/◌, ◌%◌, ◌<◌, ◌≤◌, List, ◌++◌, drop, sym, ap, ◌∙◌, add-zero, add-mul, mul-le-mul_right, arith}
use Rattle.std.proofs.Math.Nat.{div-div-eq-div-mul}
use Rattle.std.proofs.lemmas.List.{get_or-drop, drop-drop}
use Rattle.byte_strings.specs.Numbers.{be_bytes2, be_bytes4, byte_at, be_number2, be_number4}
use Rattle.byte_strings.specs.Strings.{IsBytes}

-- where xs stands at a place
module _ (bs xs : List ℕ) (at : ℕ) (e : drop at bs ≡ xs) where
  -- its first byte is the one at the place
  pub at_first : byte_at bs at ≡ byte_at xs 0
  at_first = ap (λ n. byte_at bs n) (sym (add-zero at)) ∙ sym (get_or-drop at bs 0 0) ∙ ap (λ (l : List ℕ). byte_at l 0) e

  -- its byte i stands i bytes further on
  pub at_place : (i : ℕ) → byte_at bs (at + i) ≡ byte_at xs i
  at_place i = sym (get_or-drop at bs i 0) ∙ ap (λ (l : List ℕ). byte_at l i) e

  -- i bytes further on, all but its first i bytes stand
  pub further : (i : ℕ) → drop (at + i) bs ≡ drop i xs
  further i = sym (drop-drop i at bs) ∙ ap (drop i) e

  -- the number in its first two bytes is the one at the place
  pub number2_at : be_number2 bs at ≡ be_number2 xs 0
  number2_at = λ i. at_first i * 256 + at_place 1 i

  -- the number in its first four bytes is the one at the place
  pub number4_at : be_number4 bs at ≡ be_number4 xs 0
  number4_at = λ i. at_first i * 16777216 + at_place 1 i * 65536 + at_place 2 i * 256 + at_place 3 i

-- a number is its quotient by 256, times 256, and the remainder
split : (n : ℕ) → n ≡ n / 256 * 256 + n % 256
split n = omega arith

-- a number divided three times is its four parts, each with its weight, added
joined : (n p q r a b d : ℕ) → n ≡ p * 256 + a → p ≡ q * 256 + b → q ≡ r * 256 + d → r * 16777216 + d * 65536 + b * 256 + a ≡ n
joined n p q r a b d x y z = omega arith

-- a number that fits in four bytes is read back from them
pub big4_back : (n : ℕ) (rest : List ℕ) → n < 4294967296 → be_number4 (be_bytes4 n ++ rest) 0 ≡ n
big4_back n rest h =
    let top : n / 16777216 % 256 ≡ n / 16777216 = omega arith in
    ap (λ r. r * 16777216 + n / 65536 % 256 * 65536 + n / 256 % 256 * 256 + n % 256) top
    ∙ joined n (n / 256) (n / 65536) (n / 16777216) (n % 256) (n / 256 % 256) (n / 65536 % 256) (split n)
    (split (n / 256) ∙ ap (λ q. q * 256 + n / 256 % 256) (div-div-eq-div-mul n 256 256))
    (split (n / 65536) ∙ ap (λ q. q * 256 + n / 65536 % 256) (div-div-eq-div-mul n 65536 256))

-- a number that fits in two bytes is read back from them
pub big2_back : (n : ℕ) (rest : List ℕ) → n < 65536 → be_number2 (be_bytes2 n ++ rest) 0 ≡ n
big2_back n rest h = omega arith

-- a remainder by 256 fits in a byte
byte : (n : ℕ) → n % 256 < 256
byte n = omega arith

-- each of the two bytes that a number is written as is below 256
pub big2_bytes : (n : ℕ) → IsBytes (be_bytes2 n)
big2_bytes n = (byte (n / 256), (byte n, tt))

-- each of the four bytes that a number is written as is below 256
pub big4_bytes : (n : ℕ) → IsBytes (be_bytes4 n)
big4_bytes n = (byte (n / 16777216), (byte (n / 65536), big2_bytes n))

-- the i-th of k pieces of n bytes each ends where the last does, or before
pub piece_inside : (n i k : ℕ) → i < k → i * n + n ≤ k * n
piece_inside n i k h =
    let more : i + 1 ≤ k = omega arith in
    omega (arith, mul-le-mul_right {m = i + 1} {n = k} n more, add-mul i 1 n)
