-- AES-SIV of 32 bytes, as the laws of a key wrap have it.
use Rattle.std.specs.Prelude.{◌≡◌, ℕ, List, [], ◌∷◌, take, drop, Some, refl}
use Rattle.std.proofs.Common.{subst, lit≤}
use Rattle.aes.specs.Cipher.{encrypt}
use Rattle.aes.proofs.Permuting.{permutes, encrypt_length}
use Rattle.byte_strings.specs.Strings.{IsBytes, IsSized}
use Rattle.byte_strings.proofs.Parts.{take_bytes, drop_bytes, take_sized, drop_sized, append_sized}
use Rattle.wrap_rules.specs.Counter.{ctr}
use Rattle.wrap_rules.specs.S2v.{s2v}
use Rattle.wrap_rules.specs.Siv.{siv, siv_plaintext}
use Rattle.wrap_rules.proofs.SivOpenings.{parts_only, exact}
use Rattle.wrap_rules.proofs.SivSizes.{ctr_sized, s2v_sized}

module _ (key name : List ℕ) where
  -- 32 bytes are sealed as 48
  pub siv_sized : (p : List ℕ) → IsSized 32 key → IsBytes name → IsSized 32 p → IsSized 48 (siv key (name ∷ []) p)
  siv_sized p hk hn hp =
      let e₁ = encrypt (take 16 key) in
      let e₂ = encrypt (drop 16 key) in
      let v = s2v e₁ (name ∷ []) p in
      let hv = s2v_sized e₁ (permutes (take 16 key) (take_bytes 16 key hk.1)).encrypt_sized name p hn hp.1 in
      append_sized 16 32 48 v (ctr e₂ v p) refl hv (ctr_sized e₂ (permutes (drop 16 key) (drop_bytes 16 key hk.1)).encrypt_sized 32 v p hv hp)

  -- opening gives back what was sealed
  pub open_siv_lem : (p : List ℕ) → siv_plaintext key (name ∷ []) (siv key (name ∷ []) p) ≡ Some p
  open_siv_lem p = (exact (encrypt (take 16 key)) (encrypt (drop 16 key)) (encrypt_length (take 16 key))).opens (name ∷ []) p

  -- what opens to p is the sealing of p, and p has 32 bytes
  pub open_only : (z p : List ℕ) → IsSized 32 key → IsSized 48 z → siv_plaintext key (name ∷ []) z ≡ Some p → IsSized 32 p × (siv key (name ∷ []) p ≡ z)
  open_only z p hk hz o =
      let e₁ = encrypt (take 16 key) in
      let e₂ = encrypt (drop 16 key) in
      let q = parts_only e₁ e₂ (name ∷ []) (take 16 z) (drop 16 z) p o in
      let hv = take_sized 16 48 z (lit≤ tt) hz in
      let hr = drop_sized 16 48 32 z refl hz in
      let hc = ctr_sized e₂ (permutes (drop 16 key) (drop_bytes 16 key hk.1)).encrypt_sized 32 (take 16 z) (drop 16 z) hv hr in
      (subst (IsSized 32) q.1 hc, (exact e₁ e₂ (encrypt_length (take 16 key))).only (name ∷ []) z p o)
