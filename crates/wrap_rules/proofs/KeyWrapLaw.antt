-- Unwrapping accepts exactly what wrapping gives.
use Rattle.std.specs.Prelude.{◌≡◌, ℕ, Bool, true, false, cond, List, ◌++◌, Some, None, refl}
use Rattle.std.proofs.Common.{sym, ap₂, ◌∙◌, subst, arith, lit<, lit≤}
use Rattle.std.proofs.Math.Path.{ap}
use Rattle.byte_strings.specs.Strings.{IsSized, is_same}
use Rattle.byte_strings.proofs.Parts.{append_sized, replicate_bytes, two_parts, last_part, part_sized}
use Rattle.byte_strings.proofs.Sames.{same_lists}
use Rattle.aes.specs.Cipher.{encrypt, decrypt}
use Rattle.aes.specs.Laws.{Permutes}
use Rattle.wrap_rules.specs.KeyWrap.{initial_value, blocks, wrap_steps, unwrap_steps, recovered_content, key_wrap, key_unwrap}
use Rattle.wrap_rules.proofs.KeyWrapSteps.{steps_sized, unsteps_sized, unsteps_steps, steps_unsteps}

-- for a content of 32 bytes the register starts as 40
start_sized : (p : List ℕ) → IsSized 32 p → IsSized 40 (initial_value ++ p)
start_sized p h = append_sized 8 32 40 initial_value p refl (refl, replicate_bytes 8 0xA6 (lit< tt)) h

-- the start for p gives p back
recovered_start : (p : List ℕ) → IsSized 32 p → recovered_content (initial_value ++ p) ≡ Some p
recovered_start p h = ap Some (last_part initial_value p 8 32 refl h.0)

-- a register that gives p back is the start for p
recovered_some : (s p : List ℕ) → IsSized 40 s → recovered_content s ≡ Some p → IsSized 32 p × (initial_value ++ p ≡ s)
recovered_some s p h = go (is_same (blocks 0 1 s) initial_value) refl
  where
    go : (b : Bool) → is_same (blocks 0 1 s) initial_value ≡ b → cond b (Some (blocks 1 4 s)) None ≡ Some p → IsSized 32 p × (initial_value ++ p ≡ s)
    go false t e = let z : ◌≡◌ {A = ℕ} 0 1 = cc in absurd (omega arith)
    go true t e =
        let is : blocks 1 4 s ≡ p = cc in (
          subst (IsSized 32) is (part_sized 32 8 40 s (lit≤ tt) h),
          ap₂ (λ (x y : List ℕ). x ++ y) (sym (same_lists (blocks 0 1 s) initial_value t)) (sym is) ∙ two_parts 8 32 s h.0,
        )

module _ (key : List ℕ) (a : Permutes key) where
  -- 32 bytes are wrapped as 40
  pub wrap_sized : (p : List ℕ) → IsSized 32 p → IsSized 40 (key_wrap key p)
  unfolding key_wrap
  wrap_sized p h = steps_sized key a 24 (initial_value ++ p) (lit< tt) (start_sized p h)

  -- unwrapping gives back what was wrapped
  pub unwrap_wrap : (p : List ℕ) → IsSized 32 p → key_unwrap key (key_wrap key p) ≡ Some p
  unfolding key_wrap key_unwrap
  unwrap_wrap p h =
      ap recovered_content (unsteps_steps key a 24 (initial_value ++ p) (lit< tt) (start_sized p h))
      ∙ recovered_start p h

  -- what unwraps to p is the wrap of p, and p has 32 bytes
  pub unwrap_only : (z p : List ℕ) → IsSized 40 z → key_unwrap key z ≡ Some p → IsSized 32 p × (key_wrap key p ≡ z)
  unfolding key_wrap key_unwrap
  unwrap_only z p h o =
      let s : List ℕ = unwrap_steps (decrypt key) 24 z in
      let hs : IsSized 40 s = unsteps_sized key a 24 z (lit< tt) h in
      let q : IsSized 32 p × (initial_value ++ p ≡ s) = recovered_some s p hs o in
      (q.0, ap (wrap_steps (encrypt key) 24) q.1 ∙ steps_unsteps key a 24 z (lit< tt) h)
