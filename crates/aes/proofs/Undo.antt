-- InvCipher undoes Cipher, and the other way round, under any schedule of bytes.
use Rattle.std.proofs.Common.{◌≡◌, ℕ, zero, suc, ◌-◌, List, ap, ◌∙◌}
use Rattle.byte_strings.specs.Strings.{IsBytes, IsSized, xors}
use Rattle.byte_strings.proofs.Xors.{xors_xors, xors_sized}
use Rattle.aes.specs.State.{sub_bytes, inv_sub_bytes, shift_rows, inv_shift_rows, mix_columns, inv_mix_columns}
use Rattle.aes.proofs.Steps.{sub_undo, inv_sub_undo, shift_undo, inv_shift_undo, mix_undo, inv_mix_undo, sub_sized, inv_sub_sized, shift_sized, inv_shift_sized}
use Rattle.aes.proofs.Steps.{mix_sized, inv_mix_sized}
use Rattle.aes.specs.Cipher.{round_key, rounds, cipher, inv_rounds, inv_cipher}

-- what the last round does before its key is added
round_start : List ℕ → List ℕ
round_start s = shift_rows (sub_bytes s)

-- its reverse
inv_round_start : List ℕ → List ℕ
inv_round_start s = inv_sub_bytes (inv_shift_rows s)

-- the reverse takes a round's start back
unhalf_half : (s : List ℕ) → IsSized 16 s → inv_round_start (round_start s) ≡ s
unfolding round_start inv_round_start
unhalf_half s h = ap inv_sub_bytes (shift_undo (sub_bytes s) (sub_sized 16 s h).0) ∙ sub_undo s h.1

-- a round's start takes the reverse back
half_unhalf : (s : List ℕ) → IsSized 16 s → round_start (inv_round_start s) ≡ s
unfolding round_start inv_round_start
half_unhalf s h = ap shift_rows (inv_sub_undo (inv_shift_rows s) (inv_shift_sized s h.1).1) ∙ inv_shift_undo s h.0

-- a round's start makes a state of a state
half_sized : (s : List ℕ) → IsSized 16 s → IsSized 16 (round_start s)
unfolding round_start
half_sized s h = shift_sized (sub_bytes s) (sub_sized 16 s h).1

-- the reverse makes a state of a state
unhalf_sized : (s : List ℕ) → IsSized 16 s → IsSized 16 (inv_round_start s)
unfolding inv_round_start
unhalf_sized s h = inv_sub_sized 16 (inv_shift_rows s) (inv_shift_sized s h.1)

module _ (w : List ℕ) (keys : (r : ℕ) → IsBytes (round_key w r)) where
  -- any number of rounds makes a state of a state
  rounds_sized : (n : ℕ) (s : List ℕ) → IsSized 16 s → IsSized 16 (rounds w n s)
  unfolding rounds round_start
  rounds_sized zero s h = xors_sized 16 s (round_key w 0) h (keys 0)
  rounds_sized (suc n) s h =
      let half = half_sized (rounds w n s) (rounds_sized n s h) in
      xors_sized 16 (mix_columns (round_start (rounds w n s))) (round_key w (suc n)) (mix_sized 16 (round_start (rounds w n s)) half) (keys (suc n))

  -- the inverse rounds take the rounds, and the start of one more, back
  back : (n : ℕ) (s : List ℕ) → IsSized 16 s → inv_rounds w n (round_start (rounds w n s)) ≡ s
  unfolding rounds inv_rounds round_start inv_round_start
  back zero s h =
      ap (λ (t : List ℕ). xors t (round_key w 0)) (unhalf_half (rounds w zero s) (rounds_sized zero s h))
      ∙ xors_xors s (round_key w 0)
  back (suc n) s h =
      ap (λ (t : List ℕ). inv_rounds w n (inv_mix_columns (xors t (round_key w (suc n))))) (unhalf_half (rounds w (suc n) s) (rounds_sized (suc n) s h))
      ∙ ap (λ (t : List ℕ). inv_rounds w n (inv_mix_columns t)) (xors_xors (mix_columns (round_start (rounds w n s))) (round_key w (suc n)))
      ∙ ap (inv_rounds w n) (mix_undo (round_start (rounds w n s)) (half_sized (rounds w n s) (rounds_sized n s h)).1)
      ∙ back n s h

  -- InvCipher undoes Cipher
  pub decipher_cipher : (nr : ℕ) (s : List ℕ) → IsSized 16 s → inv_cipher nr w (cipher nr w s) ≡ s
  unfolding cipher inv_cipher round_start
  decipher_cipher nr s h = ap (inv_rounds w (nr - 1)) (xors_xors (round_start (rounds w (nr - 1) s)) (round_key w nr)) ∙ back (nr - 1) s h

  -- Cipher makes a state of a state
  pub cipher_sized : (nr : ℕ) (s : List ℕ) → IsSized 16 s → IsSized 16 (cipher nr w s)
  unfolding cipher round_start
  cipher_sized nr s h =
      xors_sized 16 (round_start (rounds w (nr - 1) s)) (round_key w nr) (half_sized (rounds w (nr - 1) s) (rounds_sized (nr - 1) s h)) (keys nr)

  -- the last round of InvCipher at round n
  inner : ℕ → List ℕ → List ℕ
  unfolding inv_round_start
  inner n s = xors (inv_round_start s) (round_key w n)

  -- it makes a state of a state
  inner_sized : (n : ℕ) (s : List ℕ) → IsSized 16 s → IsSized 16 (inner n s)
  unfolding inner
  inner_sized n s h = xors_sized 16 (inv_round_start s) (round_key w n) (unhalf_sized s h) (keys n)

  -- any number of inverse rounds makes a state of a state
  inv_rounds_sized : (n : ℕ) (s : List ℕ) → IsSized 16 s → IsSized 16 (inv_rounds w n s)
  unfolding inv_rounds inner
  inv_rounds_sized zero s h = inner_sized zero s h
  inv_rounds_sized (suc n) s h = inv_rounds_sized n (inv_mix_columns (inner (suc n) s)) (inv_mix_sized 16 (inner (suc n) s) (inner_sized (suc n) s h))

  -- the rounds, and the start of one more, take the inverse rounds back
  forth : (n : ℕ) (s : List ℕ) → IsSized 16 s → round_start (rounds w n (inv_rounds w n s)) ≡ s
  unfolding rounds inv_rounds inner round_start inv_round_start
  forth zero s h = ap round_start (xors_xors (inv_round_start s) (round_key w 0)) ∙ half_unhalf s h
  forth (suc n) s h =
      let y : List ℕ = inv_mix_columns (inner (suc n) s) in
      ap (λ (t : List ℕ). round_start (xors (mix_columns t) (round_key w (suc n)))) (forth n y (inv_mix_sized 16 (inner (suc n) s) (inner_sized (suc n) s h)))
      ∙ ap (λ (t : List ℕ). round_start (xors t (round_key w (suc n)))) (inv_mix_undo (inner (suc n) s) (inner_sized (suc n) s h).1)
      ∙ ap round_start (xors_xors (inv_round_start s) (round_key w (suc n)))
      ∙ half_unhalf s h

  -- Cipher undoes InvCipher
  pub cipher_decipher : (nr : ℕ) (s : List ℕ) → IsSized 16 s → cipher nr w (inv_cipher nr w s) ≡ s
  unfolding cipher inv_cipher round_start
  cipher_decipher nr s h =
      ap (λ (t : List ℕ). xors t (round_key w nr)) (forth (nr - 1) (xors s (round_key w nr)) (xors_sized 16 s (round_key w nr) h (keys nr)))
      ∙ xors_xors s (round_key w nr)

  -- InvCipher makes a state of a state
  pub decipher_sized : (nr : ℕ) (s : List ℕ) → IsSized 16 s → IsSized 16 (inv_cipher nr w s)
  unfolding inv_cipher
  decipher_sized nr s h = inv_rounds_sized (nr - 1) (xors s (round_key w nr)) (xors_sized 16 s (round_key w nr) h (keys nr))
