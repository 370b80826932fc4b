-- The steps of the register undo each other.
use Rattle.std.specs.Prelude.{◌≡◌, ℕ, zero, suc, ◌+◌, ◌<◌, List, ◌++◌, length, take, drop}
use Rattle.std.proofs.Math.Path.{refl, ap, ap₂}
use Rattle.std.proofs.Common.{sym, ◌∙◌, add-one, lit<, lit≤}
use native.Mathlib.Omega.{arith}
use Rattle.std.proofs.lemmas.List.{take-append-drop, length-append, take_at, append_assoc, drop-drop}
use Rattle.byte_strings.specs.Strings.{IsBytes, IsSized, xors}
use Rattle.byte_strings.proofs.Parts.{take_sized, drop_sized, append_sized, part_sized, two_parts, last_part, middle_part}
use Rattle.byte_strings.proofs.Xors.{xors_xors, xors_sized}
use Rattle.aes.specs.Cipher.{encrypt, decrypt}
use Rattle.aes.specs.Laws.{Permutes}
use Rattle.wrap_rules.specs.KeyWrap.{blocks, word64, wrap_step, unwrap_step, wrap_steps, unwrap_steps}

-- after no step the register is as it was
pub steps_none : (e : List ℕ → List ℕ) (s : List ℕ) → s ≡ wrap_steps e 0 s
unfolding wrap_steps
steps_none e s = refl

-- step t + 1 comes after the steps 1 to t
pub steps_more : (e : List ℕ → List ℕ) (t : ℕ) (s : List ℕ) → wrap_step e (t + 1) (wrap_steps e t s) ≡ wrap_steps e (t + 1) s
unfolding wrap_steps
steps_more e t s = rw (add-one t)

-- after no step back the register is as it was
pub unsteps_none : (d : List ℕ → List ℕ) (s : List ℕ) → s ≡ unwrap_steps d 0 s
unfolding unwrap_steps
unsteps_none d s = refl

-- step t + 1 back comes before the steps t to 1 back
pub unsteps_more : (d : List ℕ → List ℕ) (t : ℕ) (s : List ℕ) → unwrap_steps d t (unwrap_step d (t + 1) s) ≡ unwrap_steps d (t + 1) s
unfolding unwrap_steps
unsteps_more d t s = rw (add-one t)

-- a step's number, as a 64-bit block, is of bytes
word_bytes : (t : ℕ) → t < 256 → IsBytes (word64 t)
word_bytes t h = (lit< tt, (lit< tt, (lit< tt, (lit< tt, (lit< tt, (lit< tt, (lit< tt, (h, tt))))))))

module _ (key : List ℕ) (a : Permutes key) where
  -- a step makes a register of a register
  step_sized : (t : ℕ) (s : List ℕ) → t < 256 → IsSized 40 s → IsSized 40 (wrap_step (encrypt key) t s)
  unfolding wrap_step
  step_sized t s ht h =
      let b : List ℕ = encrypt key (take 16 s) in
      let hb : IsSized 16 b = a.encrypt_sized (take 16 s) (take_sized 16 40 s (lit≤ tt) h) in
      append_sized 8 32 40 (xors (take 8 b) (word64 t)) (blocks 2 3 s ++ blocks 1 1 b) refl
      (xors_sized 8 (take 8 b) (word64 t) (take_sized 8 16 b (lit≤ tt) hb) (word_bytes t ht))
      (append_sized 24 8 32 (blocks 2 3 s) (blocks 1 1 b) refl (part_sized 24 16 40 s (lit≤ tt) h) (part_sized 8 8 16 b (lit≤ tt) hb))

  -- the block that a step back deciphers
  block_sized : (t : ℕ) (s : List ℕ) → t < 256 → IsSized 40 s → IsSized 16 (xors (take 8 s) (word64 t) ++ blocks 4 1 s)
  block_sized t s ht h =
      append_sized 8 8 16 (xors (take 8 s) (word64 t)) (blocks 4 1 s) refl
      (xors_sized 8 (take 8 s) (word64 t) (take_sized 8 40 s (lit≤ tt) h) (word_bytes t ht))
      (part_sized 8 32 40 s (lit≤ tt) h)

  -- a step back makes a register of a register
  unstep_sized : (t : ℕ) (s : List ℕ) → t < 256 → IsSized 40 s → IsSized 40 (unwrap_step (decrypt key) t s)
  unfolding unwrap_step
  unstep_sized t s ht h =
      append_sized 16 24 40 (decrypt key (xors (take 8 s) (word64 t) ++ blocks 4 1 s)) (blocks 1 3 s) refl
      (a.decrypt_sized _ (block_sized t s ht h)) (part_sized 24 8 40 s (lit≤ tt) h)

  -- a step back undoes the step of its number
  unstep_step : (t : ℕ) (s : List ℕ) → t < 256 → IsSized 40 s → unwrap_step (decrypt key) t (wrap_step (encrypt key) t s) ≡ s
  unfolding wrap_step unwrap_step
  unstep_step t s ht h =
      let b : List ℕ = encrypt key (take 16 s) in
      let hb : IsSized 16 b = a.encrypt_sized (take 16 s) (take_sized 16 40 s (lit≤ tt) h) in
      let x : List ℕ = xors (take 8 b) (word64 t) in
      let hx : length x ≡ 8 = (xors_sized 8 (take 8 b) (word64 t) (take_sized 8 16 b (lit≤ tt) hb) (word_bytes t ht)).0 in
      let m : List ℕ = blocks 2 3 s in
      let hm : length m ≡ 24 = (part_sized 24 16 40 s (lit≤ tt) h).0 in
      let y : List ℕ = blocks 1 1 b in
      let hy : length y ≡ 8 = (part_sized 8 8 16 b (lit≤ tt) hb).0 in
      let hxm : length (x ++ m) ≡ 32 = length-append x m ∙ omega arith in
      ap₂ ◌++◌
      (ap (decrypt key) (ap₂ ◌++◌ (ap (λ (u : List ℕ). xors u (word64 t)) (take_at x (m ++ y) 8 hx) ∙ xors_xors (take 8 b) (word64 t))
      (ap (λ (u : List ℕ). take 8 (drop 32 u)) (sym (append_assoc x m y)) ∙ last_part (x ++ m) y 32 8 hxm hy)
      ∙ two_parts 8 8 b hb.0)
      ∙ a.decrypt_encrypt (take 16 s) (take_sized 16 40 s (lit≤ tt) h))
      (middle_part x m y 8 24 hx hm)
      ∙ two_parts 16 24 s h.0

  -- a step undoes the step back of its number
  step_unstep : (t : ℕ) (s : List ℕ) → t < 256 → IsSized 40 s → wrap_step (encrypt key) t (unwrap_step (decrypt key) t s) ≡ s
  unfolding wrap_step unwrap_step
  step_unstep t s ht h =
      let x : List ℕ = xors (take 8 s) (word64 t) in
      let hx : length x ≡ 8 = (xors_sized 8 (take 8 s) (word64 t) (take_sized 8 40 s (lit≤ tt) h) (word_bytes t ht)).0 in
      let y : List ℕ = blocks 4 1 s in
      let hy : length y ≡ 8 = (part_sized 8 32 40 s (lit≤ tt) h).0 in
      let hxy : IsSized 16 (x ++ y) = block_sized t s ht h in
      let b : List ℕ = decrypt key (x ++ y) in
      let hb : IsSized 16 b = a.decrypt_sized (x ++ y) hxy in
      let m : List ℕ = blocks 1 3 s in
      let hm : length m ≡ 24 = (part_sized 24 8 40 s (lit≤ tt) h).0 in
      ap₂ (λ (p q : List ℕ). xors (take 8 (encrypt key p)) (word64 t) ++ (q ++ blocks 1 1 (encrypt key p)))
      (take_at b m 16 hb.0) (last_part b m 16 24 hb.0 hm)
      ∙ ap (λ (p : List ℕ). xors (take 8 p) (word64 t) ++ (m ++ blocks 1 1 p)) (a.encrypt_decrypt (x ++ y) hxy)
      ∙ ap₂ (λ (p q : List ℕ). xors p (word64 t) ++ (m ++ q)) (take_at x y 8 hx) (last_part x y 8 8 hx hy)
      ∙ ap (λ (p : List ℕ). p ++ (m ++ y)) (xors_xors (take 8 s) (word64 t))
      ∙ ap (λ (q : List ℕ). take 8 s ++ (m ++ take 8 q)) (sym (drop-drop 24 8 s))
      ∙ ap (λ (q : List ℕ). take 8 s ++ q) (two_parts 24 8 (drop 8 s) (drop_sized 8 40 32 s refl h).0)
      ∙ take-append-drop 8 s

  -- the steps make a register of a register
  pub steps_sized : (n : ℕ) (s : List ℕ) → n < 256 → IsSized 40 s → IsSized 40 (wrap_steps (encrypt key) n s)
  unfolding wrap_steps
  steps_sized zero s hn h = h
  steps_sized (suc n) s hn h = step_sized (suc n) (wrap_steps (encrypt key) n s) hn (steps_sized n s (omega arith) h)

  -- the steps back make a register of a register
  pub unsteps_sized : (n : ℕ) (s : List ℕ) → n < 256 → IsSized 40 s → IsSized 40 (unwrap_steps (decrypt key) n s)
  unfolding unwrap_steps
  unsteps_sized zero s hn h = h
  unsteps_sized (suc n) s hn h = unsteps_sized n (unwrap_step (decrypt key) (suc n) s) (omega arith) (unstep_sized (suc n) s hn h)

  -- the steps back undo the steps
  pub unsteps_steps : (n : ℕ) (s : List ℕ) → n < 256 → IsSized 40 s → unwrap_steps (decrypt key) n (wrap_steps (encrypt key) n s) ≡ s
  unfolding wrap_steps unwrap_steps
  unsteps_steps zero s hn h = refl
  unsteps_steps (suc n) s hn h =
      ap (unwrap_steps (decrypt key) n) (unstep_step (suc n) (wrap_steps (encrypt key) n s) hn (steps_sized n s (omega arith) h))
      ∙ unsteps_steps n s (omega arith) h

  -- the steps undo the steps back
  pub steps_unsteps : (n : ℕ) (s : List ℕ) → n < 256 → IsSized 40 s → wrap_steps (encrypt key) n (unwrap_steps (decrypt key) n s) ≡ s
  unfolding wrap_steps unwrap_steps
  steps_unsteps zero s hn h = refl
  steps_unsteps (suc n) s hn h =
      ap (wrap_step (encrypt key) (suc n)) (steps_unsteps n (unwrap_step (decrypt key) (suc n) s) (omega arith) (unstep_sized (suc n) s hn h))
      ∙ step_unstep (suc n) s hn h
