-- The chain as a fold over the blocks before the last.
use Rattle.std.proofs.Common.{◌≡◌, ℕ, zero, suc, ◌+◌, ◌*◌, ◌/◌, List, length, take, drop, refl, sym, ap, ◌∙◌, arith}
use Rattle.std.proofs.lemmas.List.{drop-drop, length-take}
use Rattle.std.specs.List.{fold}
use Rattle.std.specs.Simd.{first_chunks}
use Rattle.byte_strings.specs.Strings.{xors}
use Rattle.byte_strings.proofs.Chunks.{chunks_front}
use Rattle.cmac.specs.Cmac.{zeros, m_last, blocks_before_last, chain, cmac}

module _ (e : List ℕ → List ℕ) where
  -- X after so many blocks of the message
  absorbed : List ℕ → List (List ℕ) → List ℕ
  absorbed = fold (λ x b. e (xors x b))

  -- the chain is the last block, enciphered with X after the n blocks before it
  chain_folds : (n : ℕ) (x m : List ℕ) → e (xors (m_last e (drop (16 * n) m)) (absorbed x (first_chunks 16 n m))) ≡ chain e n x m
  unfolding chain absorbed
  chain_folds zero x m = refl
  chain_folds (suc n) x m =
      let on : 16 * suc n ≡ 16 + 16 * n = omega arith in
      let y = e (xors x (take 16 m)) in
      ap (λ (l : List ℕ). e (xors (m_last e l) (absorbed y (first_chunks 16 n (drop 16 m))))) (ap (λ (k : ℕ). drop k m) on ∙ sym (drop-drop (16 * n) 16 m))
      ∙ chain_folds n y (drop 16 m)

  -- the tag, from the message cut before its last block
  pub cmac_folds : (m front last : List ℕ) → front ≡ take (16 * blocks_before_last (length m)) m → last ≡ drop (16 * blocks_before_last (length m)) m →
      cmac e m ≡ e (xors (m_last e last) (fold (λ x b. e (xors x b)) zeros (first_chunks 16 (length front / 16) front)))
  unfolding cmac absorbed
  cmac_folds m front last is_front is_last =
      let n = blocks_before_last (length m) in
      let many : length (take (16 * blocks_before_last (length m)) m) / 16 ≡ blocks_before_last (length m) =
      omega (arith, length-take (16 * blocks_before_last (length m)) m) in
      sym (
      (λ j. e (xors (m_last e (is_last j)) (absorbed zeros (first_chunks 16 (length (is_front j) / 16) (is_front j)))))
      ∙ ap (λ (bs : List (List ℕ)). e (xors (m_last e (drop (16 * n) m)) (absorbed zeros bs)))
      (ap (λ (k : ℕ). first_chunks 16 k (take (16 * n) m)) many ∙ chunks_front 16 n (16 * n) m (omega arith))
      ∙ chain_folds n zeros m
      )
