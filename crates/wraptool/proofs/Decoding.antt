-- Decoding, one pair of digits more at a time.
use Rattle.std.proofs.Common.{◌≡◌, ℕ, zero, suc, ◌+◌, ◌*◌, ◌<◌, ◌≤◌, List, [], ◌∷◌, ◌++◌, length, get_or, drop, Some, None, Option, sym, refl, ap, ◌∙◌}
use Rattle.std.proofs.Common.{append_assoc, append-nil, arith}
use Rattle.std.specs.Simd.{first_chunks}
use Rattle.std.proofs.lemmas.List.{at_drop_more, at_drop_all}
use Rattle.wraptool.specs.Digits.{byte_of_digits, byte_and_rest, decoded_bytes}

-- what was read so far, in front of the rest
pub bytes_and_rest : List ℕ → Option (List ℕ) → Option (List ℕ)
bytes_and_rest xs None = None
bytes_and_rest xs (Some s) = Some (xs ++ s)

-- with nothing read so far, only the rest counts
pub after_none : (r : Option (List ℕ)) → bytes_and_rest [] r ≡ r
unfolding bytes_and_rest
after_none None = refl
after_none (Some s) = refl

-- a byte may be the last of what was read or the first of the rest
pushed : (xs : List ℕ) (b : ℕ) (r : Option (List ℕ)) → bytes_and_rest (xs ++ b ∷ []) r ≡ bytes_and_rest xs (byte_and_rest (Some b) r)
unfolding bytes_and_rest
pushed xs b None = refl
pushed xs b (Some s) = ap Some (append_assoc xs (b ∷ []) s)

-- what pairs of digits say
abbrev pub bytes_of_pairs : List (List ℕ) → Option (List ℕ)
bytes_of_pairs [] = Some []
bytes_of_pairs (p ∷ ps) = byte_and_rest (byte_of_digits (get_or p 0 0) (get_or p 1 0)) (bytes_of_pairs ps)

-- a text with no digit left over says what its pairs say
pub in_pairs : (k : ℕ) (text : List ℕ) → length text ≡ k * 2 → bytes_of_pairs (first_chunks 2 k text) ≡ decoded_bytes text
in_pairs zero [] e = refl
in_pairs zero (c ∷ s) e = absurd (omega arith)
in_pairs (suc k) [] e = absurd (omega arith)
in_pairs (suc k) (c ∷ []) e = absurd (omega arith)
in_pairs (suc k) (c ∷ d ∷ s) e = ap (byte_and_rest (byte_of_digits c d)) (in_pairs k s (omega arith))

module _ (text xs : List ℕ) (pairs : List (List ℕ)) (i : ℕ) (so_far : bytes_and_rest xs (bytes_of_pairs (drop i pairs)) ≡ decoded_bytes text) where
  -- the first pair of the rest is the one of index i
  next : i < length pairs →
      bytes_and_rest xs (byte_and_rest (byte_of_digits (get_or (get_or pairs i []) 0 0) (get_or (get_or pairs i []) 1 0)) (bytes_of_pairs (drop (i + 1) pairs)))
      ≡ decoded_bytes text
  next h = ap (bytes_and_rest xs) (sym (at_drop_more bytes_of_pairs pairs i [] h)) ∙ so_far

  -- with the byte of that pair read, the text still says what was read and the rest
  pub after_more : (b : ℕ) → i < length pairs → Some b ≡ byte_of_digits (get_or (get_or pairs i []) 0 0) (get_or (get_or pairs i []) 1 0) →
      bytes_and_rest (xs ++ b ∷ []) (bytes_of_pairs (drop (i + 1) pairs)) ≡ decoded_bytes text
  after_more b h is = pushed xs b _ ∙ ap (λ p. bytes_and_rest xs (byte_and_rest p (bytes_of_pairs (drop (i + 1) pairs)))) is ∙ next h

  -- where that pair writes no byte, the text says nothing
  pub stopped : i < length pairs → None ≡ byte_of_digits (get_or (get_or pairs i []) 0 0) (get_or (get_or pairs i []) 1 0) → decoded_bytes text ≡ None
  unfolding bytes_and_rest
  stopped h is = sym (ap (λ p. bytes_and_rest xs (byte_and_rest p (bytes_of_pairs (drop (i + 1) pairs)))) is ∙ next h)

  -- with no pair left, the text says what was read
  pub after_all : length pairs ≤ i → decoded_bytes text ≡ Some xs
  unfolding bytes_and_rest
  after_all h = sym so_far ∙ ap (bytes_and_rest xs) (at_drop_all bytes_of_pairs pairs i h) ∙ ap Some (append-nil xs)
