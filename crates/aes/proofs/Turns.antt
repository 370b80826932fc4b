-- The rounds as folds over their keys.
use Rattle.std.proofs.Common.{◌≡◌, ℕ, zero, suc, ◌+◌, ◌-◌, ◌*◌, List, [], ◌∷◌, drop, reverse, ap, ◌∙◌, arith}
use Rattle.std.proofs.lemmas.List.{drop-drop}
use Rattle.std.proofs.lemmas.Grind.{fold-append, reverse_onto}
use Rattle.std.specs.List.{fold}
use Rattle.std.specs.Simd.{first_chunks}
use Rattle.byte_strings.specs.Strings.{xors}
use Rattle.aes.specs.Rounds.{round_of, last_round, inv_round, inv_last_round}
use Rattle.aes.specs.Cipher.{round_key, rounds, cipher, inv_rounds, inv_cipher}

module _ (w : List ℕ) where
  -- so many round keys, from that of round k + 1 on
  keys_after : ℕ → ℕ → List (List ℕ)
  keys_after k n = first_chunks 16 n (drop (16 * suc k) w)

  -- one key more is that of the next round, before those that follow it
  keys_more : (k n : ℕ) → keys_after k (suc n) ≡ round_key w (suc k) ∷ keys_after (suc k) n
  unfolding keys_after
  keys_more k n =
      let on : 16 * suc k + 16 ≡ 16 * suc (suc k) = omega arith in
      ap (λ (l : List ℕ). round_key w (suc k) ∷ first_chunks 16 n l) (drop-drop 16 (16 * suc k) w ∙ ap (λ (m : ℕ). drop m w) on)

  -- n rounds more, by their keys, after the first k
  rounds_after : (n k : ℕ) (s : List ℕ) → fold round_of (rounds w k s) (keys_after k n) ≡ rounds w (k + n) s
  unfolding rounds keys_after
  rounds_after zero k s = let e : k ≡ k + 0 = omega arith in ap (λ (m : ℕ). rounds w m s) e
  rounds_after (suc n) k s =
      let e : suc k + n ≡ k + suc n = omega arith in
      ap (fold round_of (rounds w k s)) (keys_more k n)
      ∙ rounds_after n (suc k) s
      ∙ ap (λ (m : ℕ). rounds w m s) e

  -- n rounds back, by their keys from the last on, before the k that are left
  inv_rounds_after : (n k : ℕ) (s : List ℕ) → inv_rounds w k (fold inv_round s (reverse (keys_after k n))) ≡ inv_rounds w (k + n) s
  unfolding inv_rounds keys_after
  inv_rounds_after zero k s = let e : k ≡ k + 0 = omega arith in ap (λ (m : ℕ). inv_rounds w m s) e
  inv_rounds_after (suc n) k s =
      let e : suc k + n ≡ k + suc n = omega arith in
      let later = reverse (keys_after (suc k) n) in
      ap (λ (l : List (List ℕ)). inv_rounds w k (fold inv_round s (reverse l))) (keys_more k n)
      ∙ ap (λ (l : List (List ℕ)). inv_rounds w k (fold inv_round s l)) (reverse_onto (keys_after (suc k) n) (round_key w (suc k)) [])
      ∙ ap (inv_rounds w k) (fold-append inv_round s later (round_key w (suc k) ∷ []))
      ∙ inv_rounds_after n (suc k) s
      ∙ ap (λ (m : ℕ). inv_rounds w m s) e

  -- Cipher, with its middle rounds by their keys
  pub cipher_by : (nr : ℕ) (s : List ℕ)
      → last_round (fold round_of (xors s (round_key w 0)) (first_chunks 16 (nr - 1) (drop 16 w))) (round_key w nr) ≡ cipher nr w s
  unfolding cipher rounds keys_after
  cipher_by nr s =
      let e : 0 + (nr - 1) ≡ nr - 1 = omega arith in
      ap (λ (t : List ℕ). last_round t (round_key w nr)) (rounds_after (nr - 1) 0 s ∙ ap (λ (m : ℕ). rounds w m s) e)

  -- InvCipher, with its middle rounds by their keys from the last on
  pub inv_cipher_by : (nr : ℕ) (s : List ℕ)
      → inv_last_round (fold inv_round (xors s (round_key w nr)) (reverse (first_chunks 16 (nr - 1) (drop 16 w)))) (round_key w 0) ≡ inv_cipher nr w s
  unfolding inv_cipher inv_rounds keys_after
  inv_cipher_by nr s =
      let e : 0 + (nr - 1) ≡ nr - 1 = omega arith in
      let start = xors s (round_key w nr) in
      inv_rounds_after (nr - 1) 0 start ∙ ap (λ (m : ℕ). inv_rounds w m start) e
