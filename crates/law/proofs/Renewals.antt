-- What a publishing does to the key of a node at or above a leaf.
use Rattle.std.proofs.Common.{◌≡◌, ℕ, ◌<◌, ◌≤◌, Bool, true, false, List, refl, sym, ap, ◌∙◌, inl, inr, arith}
use Rattle.std.proofs.lemmas.Bool.{cases_lt, and_from, true≢false}
use Rattle.tree.specs.declared.types.Code.{Code}
use Rattle.tree.specs.declared.types.Code.TheVariants.{Empty, Stays, Arrives, Departs, Swaps}
use Rattle.tree.specs.Tree.{IsWithin, IsLeaf, is_inner}
use Rattle.tree.specs.Rows.{code_at, is_change_code, stands_within, is_changed}
use Rattle.tree.proofs.Halvings.{leaf_alone, inner_from}
use Rattle.tree.proofs.Standing.{stands_from}
use Rattle.keys.specs.Names.{Keys}
use Rattle.cradles.specs.Draws.{is_arrival_code, is_emptying_code}
use Rattle.server_rules.specs.Laws.{IsRenewal}

-- a node at or above a leaf with this code, after a change that begins this epoch
pub data ChangesAbove (epoch : ℕ) (row : List Code) (former present : Keys) (n u : ℕ) : Type 0 where
  renewed_node : (present n).made ≡ epoch → is_changed row n ≡ true → ChangesAbove epoch row former present n u
  renewed_leaf : (present n).made ≡ epoch → n ≡ u → is_arrival_code (code_at row u) ≡ true → ChangesAbove epoch row former present n u
  emptied_leaf : (present n).made ≡ 0 → is_emptying_code (code_at row u) ≡ true → ChangesAbove epoch row former present n u
  untouched : (present n).made ≡ (former n).made → is_change_code (code_at row u) ≡ false → ChangesAbove epoch row former present n u

module _ (epoch : ℕ) (row : List Code) (material : List ℕ) (former present : Keys) (r : IsRenewal epoch row material former present) where
  -- what the change makes of a leaf, by its code
  at_leaf : (u : ℕ) → IsLeaf u → is_changed row u ≡ false → (c : Code) → code_at row u ≡ c → ChangesAbove epoch row former present u u
  at_leaf u l n Empty e = untouched (ap (λ k. k.made) (r.others_kept u n (λ h. (ap is_arrival_code e, ap is_emptying_code e)))) (ap is_change_code e)
  at_leaf u l n Stays e = untouched (ap (λ k. k.made) (r.others_kept u n (λ h. (ap is_arrival_code e, ap is_emptying_code e)))) (ap is_change_code e)
  at_leaf u l n Arrives e = renewed_leaf (r.arrival_new u l (ap is_arrival_code e)) refl (ap is_arrival_code e)
  at_leaf u l n Departs e = emptied_leaf (ap (λ k. k.made) (r.emptied_none u l (ap is_emptying_code e))) (ap is_emptying_code e)
  at_leaf u l n Swaps e = renewed_leaf (r.arrival_new u l (ap is_arrival_code e)) refl (ap is_arrival_code e)

  -- what moves beneath an inner node changes it
  unmoved : (n u : ℕ) → IsLeaf u → 0 < n → n < 128 → IsWithin u n → is_changed row n ≡ false → (b : Bool) → is_change_code (code_at row u) ≡ b → b ≡ false
  unfolding is_changed
  unmoved n u l o i w e true m =
      absurd (true≢false (sym (and_from (is_inner n) (stands_within is_change_code row n) (inner_from n (o, i))
      (stands_from is_change_code row n u o l w m)) ∙ e))
  unmoved n u l o i w e false m = refl

  -- what the change makes of any node at or above a leaf
  pub above : (n u : ℕ) → IsLeaf u → 0 < n → IsWithin u n → ChangesAbove epoch row former present n u
  above n u l o w = go (is_changed row n) refl
    where
      low : n < 128 → is_changed row n ≡ false → ChangesAbove epoch row former present n u
      low i e = untouched (ap (λ k. k.made) (r.others_kept n e (λ h. absurd (omega (arith, h.0)))))
          (unmoved n u l o i w e (is_change_code (code_at row u)) refl)

      high : u ≡ n → is_changed row n ≡ false → ChangesAbove epoch row former present n u
      high q e = rw (sym q) (at_leaf u l (ap (is_changed row) q ∙ e) (code_at row u) refl)

      go : (b : Bool) → is_changed row n ≡ b → ChangesAbove epoch row former present n u
      go true e = renewed_node (r.changed_new n e) e
      go false e = elim (cases_lt n 128) [
        | inl i ↦ low i e
        | inr h ↦ high (leaf_alone u n l.1 h w) e
      ]

  -- no key is from a later epoch
  pub made_past : ((n : ℕ) → (former n).made ≤ epoch) → (n : ℕ) → (present n).made ≤ epoch
  made_past past n = go (is_changed row n) refl
    where
      leaf : IsLeaf n → is_changed row n ≡ false → (present n).made ≤ epoch
      leaf l e = elim (at_leaf n l e (code_at row n) refl) [
        | renewed_node q h ↦ omega (arith, q)
        | renewed_leaf q s h ↦ omega (arith, q)
        | emptied_leaf q h ↦ omega (arith, q)
        | untouched q h ↦ omega (arith, q, past n)
      ]

      kept : (IsLeaf n → ⊥) → is_changed row n ≡ false → (present n).made ≤ epoch
      kept never e = omega (arith, ap (λ k. k.made) (r.others_kept n e (λ h. absurd (never h))), past n)

      go : (b : Bool) → is_changed row n ≡ b → (present n).made ≤ epoch
      go true e = omega (arith, r.changed_new n e)
      go false e = elim (cases_lt n 128) [
        | inl i ↦ kept (λ h. omega (arith, h.0)) e
        | inr h ↦ elim (cases_lt n 256) [
          | inl k ↦ leaf (h, k) e
          | inr g ↦ kept (λ k. omega (arith, k.1)) e
        ]
      ]
