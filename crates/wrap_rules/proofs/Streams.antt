-- The counter mode, a block at a time.
use Rattle.std.specs.Prelude.{◌≡◌, ℕ, suc, ◌+◌, ◌-◌, ◌*◌, ◌/◌, ◌<◌, ◌≤◌, List, ◌++◌, length, take, drop}
use Rattle.std.proofs.Math.Path.{sym, ap, ap₂}
use Rattle.std.proofs.Common.{◌∙◌}
use native.Mathlib.Omega.{arith}
use Rattle.std.proofs.lemmas.List.{append_assoc, drop-drop, drop_at, length-take-le, take-append-drop}
use Rattle.byte_strings.specs.Strings.{xors}
use Rattle.byte_strings.proofs.Xors.{xors_append, xors_nil, xors_length, xors_xors}
use Rattle.wrap_rules.specs.Counter.{counter_start, increment, keystream, ctr}
use Rattle.byte_strings.proofs.Tails.{take_past, tail_added}
use borrow.Rule.Slice.PartMut.{put_mid}

-- the text as it will be, where i of n blocks are done and q is the counter
pub text_to_come : (List ℕ → List ℕ) → ℕ → ℕ → List ℕ → List ℕ → List ℕ
text_to_come e n i q t = take (16 * i) t ++ xors (drop (16 * i) t) (keystream e (n - i) q)

module _ (e : List ℕ → List ℕ) where
  -- before the first block it is the text with the whole stream added
  pub stream_none : (v t : List ℕ) → text_to_come e ((length t + 15) / 16) 0 (counter_start v) t ≡ ctr e v t
  unfolding ctr text_to_come
  stream_none v t =
      let n = (length t + 15) / 16 in
      let all : (length t + 15) / 16 - 0 ≡ (length t + 15) / 16 = omega arith in
      ap (λ (k : ℕ). xors t (keystream e k (counter_start v))) all

  -- one block more is added, and nothing is changed of the text as it will be
  stream_next : (n : ℕ) (q t : List ℕ) (i : ℕ) → i < n → 16 * i ≤ length t → length (e q) ≡ 16 →
      text_to_come e n (i + 1) (increment q) (take (16 * i) t ++ xors (drop (16 * i) t) (e q)) ≡ text_to_come e n i q t
  unfolding keystream text_to_come
  stream_next n q t i h l b =
      let p = take (16 * i) t in
      let x = xors (drop (16 * i) t) (e q) in
      let k = keystream e (n - (i + 1)) (increment q) in
      let left : n - i ≡ suc (n - (i + 1)) = omega arith in
      let on : 16 * (i + 1) ≡ 16 * i + 16 = omega arith in
      let long : length (take (16 * i) t) ≡ 16 * i = length-take-le (16 * i) t l in
      ap (λ (j : ℕ). take j (p ++ x) ++ xors (drop j (p ++ x)) k) on
      ∙ ap₂ (λ (a c : List ℕ). a ++ xors c k) (take_past p x (16 * i) 16 long)
      (sym (drop-drop 16 (16 * i) (p ++ x)) ∙ ap (drop 16) (drop_at p x (16 * i) long))
      ∙ append_assoc p (take 16 x) (xors (drop 16 x) k)
      ∙ ap (λ (u : List ℕ). p ++ u) (ap (λ (j : ℕ). take j x ++ xors (drop j x) k) (sym b) ∙ sym (xors_append (drop (16 * i) t) (e q) k))
      ∙ ap (λ (j : ℕ). p ++ xors (drop (16 * i) t) (keystream e j q)) (sym left)

  -- the same of the block k that is added where the text's tail lies
  pub stream_more : (n : ℕ) (q t k ys : List ℕ) (i : ℕ) → i < n → 16 * i ≤ length t → k ≡ e q → length k ≡ 16 →
      ys ≡ xors (take (length t - 16 * i) (drop (16 * i) t)) k →
      text_to_come e n (i + 1) (increment q) (put_mid (16 * i) (length t - 16 * i) t ys) ≡ text_to_come e n i q t
  stream_more n q t k ys i h l is b added =
      ap (text_to_come e n (i + 1) (increment q)) (tail_added (16 * i) t k ys added ∙ ap (λ (u : List ℕ). take (16 * i) t ++ xors (drop (16 * i) t) u) is)
      ∙ stream_next n q t i h l (ap length (sym is) ∙ b)

  -- after the last block it is the text
  pub stream_all : (n : ℕ) (q t : List ℕ) (i : ℕ) → n ≤ i → text_to_come e n i q t ≡ t
  unfolding keystream text_to_come
  stream_all n q t i h =
      let none : n - i ≡ 0 = omega arith in
      ap (λ (k : ℕ). take (16 * i) t ++ xors (drop (16 * i) t) (keystream e k q)) none
      ∙ ap (λ (u : List ℕ). take (16 * i) t ++ u) (xors_nil (drop (16 * i) t))
      ∙ take-append-drop (16 * i) t

  -- a second time takes the stream back
  pub ctr_ctr : (v t : List ℕ) → ctr e v (ctr e v t) ≡ t
  unfolding ctr
  ctr_ctr v t =
      let k = keystream e ((length t + 15) / 16) (counter_start v) in
      ap (λ (n : ℕ). xors (xors t k) (keystream e ((n + 15) / 16) (counter_start v))) (xors_length t k) ∙ xors_xors t k
