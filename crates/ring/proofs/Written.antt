-- The entries of a ring, written over its bytes one after the other.
use Rattle.std.proofs.Common.{◌≡◌, ℕ, ◌+◌, ◌*◌, ◌<◌, ◌≤◌, List, [], ◌++◌, length, get_or, take, drop, sym, refl, ap, ◌∙◌, ap₂, append_assoc, append-nil, arith}
use Rattle.std.proofs.lemmas.List.{take_all, drop_all, flat_map_more, take_more, length-append, length-drop}
use Rattle.byte_strings.specs.Strings.{overlay}
use Rattle.byte_strings.specs.Numbers.{be_bytes4}
use Rattle.byte_strings.proofs.Overs.{over_next}
use Rattle.keys.specs.declared.NodeKey.{NodeKey}
use Rattle.player_rules.specs.Rings.{entry_bytes, ring_bytes}
use Rattle.ring.specs.Rings.{with_entry}

module _ (entries : List NodeKey) (s : List ℕ) where
  -- the first k entries are written
  pub front : ℕ → List ℕ
  front k = ring_bytes (take k entries) ++ drop (36 * k) s

  -- before the first entry nothing is written
  pub front_none : s ≡ front 0
  unfolding front
  front_none = refl

  -- entry k is written behind the first k
  pub front_more : (k : ℕ) (d : NodeKey) → length (front k) ≡ length s → length s ≡ 36 * length entries → k < length entries →
      length (get_or entries k d).key ≡ 32 → with_entry (front k) k (get_or entries k d) ≡ front (k + 1)
  unfolding front
  front_more k d long room h size =
      let P : List ℕ = ring_bytes (take k entries) in
      let it : NodeKey = get_or entries k d in
      let at : length P ≡ 36 * k = omega (arith, long, length-append P (drop (36 * k) s), length-drop (36 * k) s) in
      let at₁ : length (P ++ be_bytes4 it.made) ≡ 36 * k + 4 = omega (arith, length-append P (be_bytes4 it.made)) in
      let end : 36 * k + 4 + length it.key ≡ 36 * (k + 1) = omega arith in
      ap (λ (l : List ℕ). overlay l (36 * k + 4) it.key) (over_next P s (be_bytes4 it.made) (36 * k) at)
      ∙ over_next (P ++ be_bytes4 it.made) s it.key (36 * k + 4) at₁
      ∙ ap₂ (λ (l : List ℕ) (n : ℕ). l ++ drop n s)
      (append_assoc P (be_bytes4 it.made) it.key ∙ flat_map_more entry_bytes [] (take k entries) it ∙ ap ring_bytes (sym (take_more entries k d h))) end

  -- once all entries are written, the bytes are those of the ring
  pub front_all : (k : ℕ) → length s ≡ 36 * length entries → length entries ≤ k → front k ≡ ring_bytes entries
  unfolding front
  front_all k room h =
      let inside : length s ≤ 36 * k = omega arith in
      ap₂ (λ (l : List NodeKey) (r : List ℕ). ring_bytes l ++ r) (take_all k entries h) (drop_all (36 * k) s inside) ∙ append-nil (ring_bytes entries)
