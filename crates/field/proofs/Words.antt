-- Words of 32 bits by their bytes: sums, turns, and the column that is made of four words of shares.
use Rattle.std.proofs.Common.{◌≡◌, ℕ, zero, suc, subst, ◌+◌, ◌*◌, ◌/◌, ◌%◌, ◌^◌, ◌<◌, List, [], ◌∷◌, get_or, sym, refl, ap, ap₂, ◌∙◌, arith}
use Rattle.std.specs.Int.{byte_at, to_le_bytes, rotate_left, w32}
use Rattle.std.specs.Int.Bits.{bit_xor, bit_or}
use Rattle.std.proofs.lemmas.Nat.{or_shifted, xor_shr, xor_mod, xor_comm, pow-add}
use Rattle.std.proofs.Math.Nat.{pow-suc}
use Rattle.field.specs.Field.{shares_of, sum_of_shares, column_of}
use lib.Bits.{xor_assoc}

-- the bits of n bytes
bits_of : (n : ℕ) → 256 ^ n ≡ 2 ^ (8 * n)
bits_of zero = refl
bits_of (suc n) =
    let e : 8 * suc n ≡ 8 * n + 8 = omega arith in
    rw (pow-suc 256 n, bits_of n, e, pow-add 2 (8 * n) 8) refl

-- a byte of a sum is the sum of the bytes
pub byte_xor : (i x y : ℕ) → byte_at i (bit_xor x y) ≡ bit_xor (byte_at i x) (byte_at i y)
byte_xor zero x y = xor_mod x y 8
byte_xor (suc i) x y =
    subst (λ (p : ℕ). bit_xor x y / p % 256 ≡ bit_xor (x / p % 256) (y / p % 256)) (sym (bits_of (suc i)))
    (ap (λ (n : ℕ). n % 256) (xor_shr x y (8 * suc i)) ∙ xor_mod (x / 2 ^ (8 * suc i)) (y / 2 ^ (8 * suc i)) 8)

-- the bytes of the sum of two words are the sums of their bytes
xor_bytes : (x y a b c d e f g h : ℕ) → to_le_bytes w32 x ≡ a ∷ b ∷ c ∷ d ∷ [] → to_le_bytes w32 y ≡ e ∷ f ∷ g ∷ h ∷ []
    → to_le_bytes w32 (bit_xor x y) ≡ bit_xor a e ∷ bit_xor b f ∷ bit_xor c g ∷ bit_xor d h ∷ []
xor_bytes x y a b c d e f g h p q = λ i. (byte_xor 0 x y ∙ at 0) i ∷ (byte_xor 1 x y ∙ at 1) i ∷ (byte_xor 2 x y ∙ at 2) i ∷ (byte_xor 3 x y ∙ at 3) i ∷ []
  where
    at : (n : ℕ) → bit_xor (get_or (to_le_bytes w32 x) n 0) (get_or (to_le_bytes w32 y) n 0)
        ≡ bit_xor (get_or (a ∷ b ∷ c ∷ d ∷ []) n 0) (get_or (e ∷ f ∷ g ∷ h ∷ []) n 0)
    at n = ap₂ (λ (l m : List ℕ). bit_xor (get_or l n 0) (get_or m n 0)) p q

-- a word turned by 8 bits
turned_word : ℕ → ℕ
turned_word n = n % 16777216 * 256 + n / 16777216

-- it is a word of 32 bits again
turn_small : (n : ℕ) → n < 4294967296 → turned_word n < 4294967296
unfolding turned_word
turn_small n h = omega arith

-- the last byte comes first
turn_bytes : (n a b c d : ℕ) → n < 4294967296 → to_le_bytes w32 n ≡ a ∷ b ∷ c ∷ d ∷ [] → to_le_bytes w32 (turned_word n) ≡ d ∷ a ∷ b ∷ c ∷ []
unfolding turned_word
turn_bytes n a b c d h e =
    let t : ℕ = n % 16777216 * 256 + n / 16777216 in
    let q0 : t % 256 ≡ n / 16777216 % 256 = omega arith in
    let q1 : t / 256 % 256 ≡ n % 256 = omega arith in
    let q2 : t / 65536 % 256 ≡ n / 256 % 256 = omega arith in
    let q3 : t / 16777216 % 256 ≡ n / 65536 % 256 = omega arith in
    (λ i. q0 i ∷ q1 i ∷ q2 i ∷ q3 i ∷ [])
    ∙ ap (λ (l : List ℕ). get_or l 3 0 ∷ get_or l 0 0 ∷ get_or l 1 0 ∷ get_or l 2 0 ∷ []) e

-- a turn by 8 bits is one such turn
once : (n : ℕ) → n < 4294967296 → rotate_left w32 n 8 ≡ turned_word n
unfolding turned_word
once n h =
    let front : n * 256 % 4294967296 ≡ n % 16777216 * 256 = omega arith in
    ap (λ (m : ℕ). bit_or m (n / 16777216)) front ∙ or_shifted (n % 16777216) 8 (n / 16777216) (omega arith)

-- a turn by 16 bits is two of them
twice : (n : ℕ) → n < 4294967296 → rotate_left w32 n 16 ≡ turned_word (turned_word n)
unfolding turned_word
twice n h =
    let front : n * 65536 % 4294967296 ≡ n % 65536 * 65536 = omega arith in
    ap (λ (m : ℕ). bit_or m (n / 65536)) front ∙ or_shifted (n % 65536) 16 (n / 65536) (omega arith) ∙ omega arith

-- a turn by 24 bits is three of them
thrice : (n : ℕ) → n < 4294967296 → rotate_left w32 n 24 ≡ turned_word (turned_word (turned_word n))
unfolding turned_word
thrice n h =
    let front : n * 16777216 % 4294967296 ≡ n % 256 * 16777216 = omega arith in
    ap (λ (m : ℕ). bit_or m (n / 256)) front ∙ or_shifted (n % 256) 24 (n / 256) (omega arith) ∙ omega arith

-- the first term of a sum goes to its end
to_end : (a b c d : ℕ) → bit_xor a (bit_xor b (bit_xor c d)) ≡ bit_xor b (bit_xor c (bit_xor d a))
to_end a b c d = xor_comm a (bit_xor b (bit_xor c d)) ∙ xor_assoc b (bit_xor c d) a ∙ ap (bit_xor b) (xor_assoc c d a)

-- the words of shares of a column's bytes, each turned to its byte's place, add up to the mixed column
module _ (share : ℕ → ℕ → ℕ) where
  -- the bytes of the word w are the four shares of b
  abbrev HasShares : ℕ → ℕ → Type 0
  HasShares w b = to_le_bytes w32 w ≡ shares_of share b

  -- the sum of four words of shares, turned, has the bytes of the mixed column
  pub mixed_word : (a b c d x y z w : ℕ) → y < 4294967296 → z < 4294967296 → w < 4294967296 → HasShares x a → HasShares y b → HasShares z c → HasShares w d
      → to_le_bytes w32 (bit_xor x (bit_xor (rotate_left w32 y 8) (bit_xor (rotate_left w32 z 16) (rotate_left w32 w 24))))
      ≡ column_of (sum_of_shares share) a b c d
  mixed_word a b c d x y z w hy hz hw p q r s =
      let y1 = ap (to_le_bytes w32) (once y hy) ∙ turn_bytes y _ _ _ _ hy q in
      let z2 = ap (to_le_bytes w32) (twice z hz) ∙ turn_bytes (turned_word z) _ _ _ _ (turn_small z hz) (turn_bytes z _ _ _ _ hz r) in
      let w2 = turn_bytes (turned_word w) _ _ _ _ (turn_small w hw) (turn_bytes w _ _ _ _ hw s) in
      let w3 = ap (to_le_bytes w32) (thrice w hw) ∙ turn_bytes (turned_word (turned_word w)) _ _ _ _ (turn_small (turned_word w) (turn_small w hw)) w2 in
      xor_bytes x _ _ _ _ _ _ _ _ _ p (xor_bytes _ _ _ _ _ _ _ _ _ _ y1 (xor_bytes _ _ _ _ _ _ _ _ _ _ z2 w3))
      ∙ (λ i.
      sum_of_shares share a b c d
      ∷ to_end (share 1 a) (share 0 b) (share 3 c) (share 2 d) i
      ∷ (to_end (share 2 a) (share 1 b) (share 0 c) (share 3 d) ∙ to_end (share 1 b) (share 0 c) (share 3 d) (share 2 a)) i
      ∷ (to_end (share 3 a) (share 2 b) (share 1 c) (share 0 d)
      ∙ to_end (share 2 b) (share 1 c) (share 0 d) (share 3 a) ∙ to_end (share 1 c) (share 0 d) (share 3 a) (share 2 b)) i
      ∷ [])
