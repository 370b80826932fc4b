-- Opening accepts exactly what sealing gives.
use Rattle.std.specs.Prelude.{◌≡◌, ℕ, Bool, true, false, cond, List, ◌++◌, length, take, drop, Some, None, refl}
use Rattle.std.proofs.Common.{sym, ap, ap₂, ◌∙◌, arith}
use Rattle.std.proofs.lemmas.List.{take-append-drop, take_at, drop_at}
use Rattle.byte_strings.proofs.Sames.{same_lists, same_self}
use Rattle.cmac.proofs.Sizes.{cmac_length}
use Rattle.cmac.specs.Cmac.{zeros, cmac}
use Rattle.wrap_rules.specs.Counter.{ctr}
use Rattle.wrap_rules.specs.S2v.{gathered_block, last_string, s2v}
use Rattle.wrap_rules.specs.Siv.{is_synthetic_iv, decrypted_text}
use Rattle.wrap_rules.specs.Laws.{IsExact}
use Rattle.wrap_rules.proofs.Streams.{ctr_ctr}

module _ (e₁ e₂ : List ℕ → List ℕ) (strings : List (List ℕ)) where
  -- where the first cipher answers 16 numbers, so does S2V
  pub s2v_length : ((s : List ℕ) → length (e₁ s) ≡ 16) → (p : List ℕ) → length (s2v e₁ strings p) ≡ 16
  unfolding s2v
  s2v_length long p = cmac_length e₁ long (last_string (gathered_block e₁ (cmac e₁ zeros) strings) p)

  -- what opens to p is the IV of p, and p under the counter mode
  pub parts_only : (v c p : List ℕ) → decrypted_text e₁ e₂ strings v c ≡ Some p → (s2v e₁ strings p ≡ v) × (ctr e₂ v c ≡ p)
  parts_only v c p = go (is_synthetic_iv e₁ strings v (ctr e₂ v c)) refl
    where
      go : (b : Bool) → is_synthetic_iv e₁ strings v (ctr e₂ v c) ≡ b → cond b (Some (ctr e₂ v c)) None ≡ Some p → (s2v e₁ strings p ≡ v) × (ctr e₂ v c ≡ p)
      go true s h =
          let same_text : ctr e₂ v c ≡ p = cc in
          (ap (s2v e₁ strings) (sym same_text) ∙ same_lists (s2v e₁ strings (ctr e₂ v c)) v s, same_text)
      go false s h = let z : ◌≡◌ {A = ℕ} 0 1 = cc in absurd (omega arith)

-- where the first cipher answers 16 numbers, opening accepts exactly what sealing gives
pub exact : (e₁ e₂ : List ℕ → List ℕ) → ((s : List ℕ) → length (e₁ s) ≡ 16) → IsExact e₁ e₂
exact e₁ e₂ long = record {
  opens = λ strings p.
      let v = s2v e₁ strings p in
      let h = s2v_length e₁ e₂ strings long p in
      ap₂ (decrypted_text e₁ e₂ strings) (take_at v (ctr e₂ v p) 16 h) (drop_at v (ctr e₂ v p) 16 h)
      ∙ ap (λ (u : List ℕ). cond (is_synthetic_iv e₁ strings v u) (Some u) None) (ctr_ctr e₂ v p)
      ∙ ap (λ (b : Bool). cond b (Some p) None) (same_self v);
  only = λ strings z p o.
      let v = take 16 z in
      let c = drop 16 z in
      let q = parts_only e₁ e₂ strings v c p o in
      ap (λ (u : List ℕ). u ++ ctr e₂ u p) q.0
      ∙ ap (λ (u : List ℕ). v ++ ctr e₂ v u) (sym q.1)
      ∙ ap (λ (u : List ℕ). v ++ u) (ctr_ctr e₂ v c)
      ∙ take-append-drop 16 z;
}
