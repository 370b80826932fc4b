-- The steps of a round that go by words, on states that are written out.
use Rattle.std.proofs.Common.{◌≡◌, ℕ, zero, suc, List, [], ◌∷◌, length, get_or, sym, refl, ap, ap₂, ◌∙◌}
use Rattle.std.specs.Int.{bytes_low_first, to_le_bytes, w64}
use Rattle.std.specs.Int.Bits.{bit_xor}
use Rattle.byte_strings.specs.Strings.{part, xors}
use Rattle.field.specs.Field.{s_box, mix_share, sum_of_shares, column_of}
use Rattle.field.proofs.Words.{byte_xor}
use Rattle.aes.specs.State.{sub_bytes, shift_rows, mapped_columns, mix_columns}
use Rattle.aes.proofs.Sixteen.{sixteen}

-- SUBBYTES may come after SHIFTROWS, with each share taken through the S-box
pub shares_after_box : (s : List ℕ) → length s ≡ 16
    → mapped_columns (sum_of_shares (λ i b. mix_share i (s_box b))) (shift_rows s) ≡ mix_columns (shift_rows (sub_bytes s))
unfolding shift_rows mix_columns
shares_after_box s h =
    ap (λ (t : List ℕ). mapped_columns (sum_of_shares (λ i b. mix_share i (s_box b))) (shift_rows t)) (sixteen s h)
    ∙ sym (ap (λ (t : List ℕ). mix_columns (shift_rows (sub_bytes t))) (sixteen s h))

-- four mixed columns, one after the other
module _ (share : ℕ → ℕ → ℕ) where
  -- the four bytes of a column after the mix
  abbrev mixed_column : ℕ → ℕ → ℕ → ℕ → List ℕ
  mixed_column = column_of (sum_of_shares share)

  -- the bytes of the four columns of a state, each mixed, are those of the mixed state
  pub four_columns : (s a b c d : List ℕ) → length s ≡ 16
      → a ≡ mixed_column (get_or s 0 0) (get_or s 1 0) (get_or s 2 0) (get_or s 3 0)
      → b ≡ mixed_column (get_or s 4 0) (get_or s 5 0) (get_or s 6 0) (get_or s 7 0)
      → c ≡ mixed_column (get_or s 8 0) (get_or s 9 0) (get_or s 10 0) (get_or s 11 0)
      → d ≡ mixed_column (get_or s 12 0) (get_or s 13 0) (get_or s 14 0) (get_or s 15 0)
      → get_or a 0 0 ∷ get_or a 1 0 ∷ get_or a 2 0 ∷ get_or a 3 0 ∷ get_or b 0 0 ∷ get_or b 1 0 ∷ get_or b 2 0 ∷ get_or b 3 0
      ∷ get_or c 0 0 ∷ get_or c 1 0 ∷ get_or c 2 0 ∷ get_or c 3 0 ∷ get_or d 0 0 ∷ get_or d 1 0 ∷ get_or d 2 0 ∷ get_or d 3 0 ∷ []
      ≡ mapped_columns (sum_of_shares share) s
  four_columns s a b c d h p q r t =
      (λ i.
      get_or (p i) 0 0 ∷ get_or (p i) 1 0 ∷ get_or (p i) 2 0 ∷ get_or (p i) 3 0
      ∷ get_or (q i) 0 0 ∷ get_or (q i) 1 0 ∷ get_or (q i) 2 0 ∷ get_or (q i) 3 0
      ∷ get_or (r i) 0 0 ∷ get_or (r i) 1 0 ∷ get_or (r i) 2 0 ∷ get_or (r i) 3 0
      ∷ get_or (t i) 0 0 ∷ get_or (t i) 1 0 ∷ get_or (t i) 2 0 ∷ get_or (t i) 3 0 ∷ [])
      ∙ sym (ap (mapped_columns (sum_of_shares share)) (sixteen s h))

-- the bytes of a sum
xor_bytes : (i n x y : ℕ) → bytes_low_first i n (bit_xor x y) ≡ xors (bytes_low_first i n x) (bytes_low_first i n y)
xor_bytes i zero x y = refl
xor_bytes i (suc n) x y = ap₂ (λ (b : ℕ) (l : List ℕ). b ∷ l) (byte_xor i x y) (xor_bytes (suc i) n x y)

-- two halves of eight bytes
abbrev joined_halves : List ℕ → List ℕ → List ℕ
joined_halves a b =
    get_or a 0 0 ∷ get_or a 1 0 ∷ get_or a 2 0 ∷ get_or a 3 0 ∷ get_or a 4 0 ∷ get_or a 5 0 ∷ get_or a 6 0 ∷ get_or a 7 0
    ∷ get_or b 0 0 ∷ get_or b 1 0 ∷ get_or b 2 0 ∷ get_or b 3 0 ∷ get_or b 4 0 ∷ get_or b 5 0 ∷ get_or b 6 0 ∷ get_or b 7 0 ∷ []

-- a key is added half by half
pub by_halves : (s k : List ℕ) (x y z w : ℕ) → length s ≡ 16 → length k ≡ 16 → to_le_bytes w64 x ≡ part 8 0 s → to_le_bytes w64 y ≡ part 8 0 k
    → to_le_bytes w64 z ≡ part 8 8 s → to_le_bytes w64 w ≡ part 8 8 k → joined_halves (to_le_bytes w64 (bit_xor x y)) (to_le_bytes w64 (bit_xor z w)) ≡ xors s k
by_halves s k x y z w hs hk p q r t =
    ap₂ joined_halves (xor_bytes 0 8 x y ∙ ap₂ xors p q) (xor_bytes 0 8 z w ∙ ap₂ xors r t)
    ∙ ap₂ (λ (u v : List ℕ). joined_halves (xors (part 8 0 u) (part 8 0 v)) (xors (part 8 8 u) (part 8 8 v))) (sixteen s hs) (sixteen k hk)
    ∙ sym (ap₂ xors (sixteen s hs) (sixteen k hk))
