-- The user-oriented plan is lawful for every row.
use Rattle.std.proofs.Common.{◌≡◌, ℕ, zero, suc, ◌+◌, ◌*◌, ◌/◌, ◌<◌, ◌≤◌, Bool, true, false, not, ◌&&◌, ◌||◌, eqb, ◌⊎◌, List, length, filter, sym, refl, ap}
use Rattle.std.proofs.Common.{◌∙◌, inl, inr, arith}
use Rattle.std.proofs.lemmas.Bool.{and_parts, and_from, or_cases, or_right, cases_Bool, cases_lt, both_ways, eq-eqb, not-true, false≢true}
use Rattle.tree.specs.declared.types.Code.{Code}
use Rattle.tree.specs.declared.types.Opener.{Opener}
use Rattle.tree.specs.declared.types.Opener.TheVariants.{Present, Former}
use Rattle.tree.specs.Tree.{ancestor, IsLeaf, IsInner, IsWithin, is_leaf, is_inner, is_within, is_beneath, tree_nodes}
use Rattle.tree.specs.Rows.{is_changed, is_occupied}
use Rattle.tree.specs.Plans.{MayOpen, IsLawfulPlan}
use Rattle.tree.proofs.Halvings.{halved_first, halved_low, leaf_is, leaf_from, inner_from, within_is, within_from, beneath_is, beneath_from, beneath_within}
use Rattle.tree.proofs.Halvings.{within_cases, within_self, within_up, beneath_parent, beneath_child}
use Rattle.tree.proofs.Standing.{changed_inner, changed_up, occupied_up}
use Rattle.strategy_rules.specs.Rules.{candidates, user_oriented_rule, is_top, plan}
use Rattle.strategy_rules.proofs.Kept.{kept_le, kept_or}
use Rattle.strategy_rules.proofs.Widths.{passing_count, in_nodes, width, one_fits, children_fit}
use Rattle.strategy_rules.proofs.Planned.{candidates_kept, present_in, IsServed, known_present, lawful}
use Rattle.tree.proofs.Members.{In}

module _ (row : List Code) where
  -- a leaf is not among the changed nodes
  leaf_unchanged : (u : ℕ) → IsLeaf u → is_changed row u ≡ false
  leaf_unchanged u l = elim (cases_Bool (is_changed row u)) [ inl t ↦ absurd (omega (arith, (changed_inner row u t).1)) | inr f ↦ f ]

  -- a leaf, or an inner node that does not change
  abbrev is_unchanged_node : ℕ → Bool
  is_unchanged_node o = is_leaf o || (is_inner o && not (is_changed row o))

  -- such a node is not among the changed ones
  still_is : (o : ℕ) → is_unchanged_node o ≡ true → is_changed row o ≡ false
  still_is o e = elim (or_cases (is_leaf o) (is_inner o && not (is_changed row o)) e) [
    | inl l ↦ leaf_unchanged o (leaf_is o l)
    | inr i ↦ not-true (is_changed row o) (and_parts (is_inner o) (not (is_changed row o)) i).1
  ]

  -- what makes o a top: a changed parent, somebody there, and no new key of its own
  record IsTop (o : ℕ) : Type 0 where
    above : is_changed row (o / 2) ≡ true
    occupied : is_occupied row o ≡ true
    same : is_changed row o ≡ false

  -- what passes the test is a top
  top_is : (o : ℕ) → is_top row o ≡ true → IsTop o
  top_is o e =
      let a = and_parts (is_changed row (o / 2)) (is_occupied row o && is_unchanged_node o) e in
      let b = and_parts (is_occupied row o) (is_unchanged_node o) a.1 in
      record { above = a.0; occupied = b.0; same = still_is o b.1 }

  -- every top passes the test
  top_from : (o : ℕ) → 0 < o → o < 256 → IsTop o → is_top row o ≡ true
  top_from o l h t =
      rw (t.above, t.occupied, t.same) (elim (cases_lt o 128) [
        | inl i ↦ rw (inner_from o (l, i)) (or_right (is_leaf o) true refl)
        | inr i ↦ rw (leaf_from o (i, h)) refl
      ])

  -- the tops at n or beneath it
  abbrev is_top_within : ℕ → ℕ → Bool
  is_top_within n o = is_within o n && is_top row o

  -- what passes is a top, and is n or beneath it
  within_top : (n o : ℕ) → is_top_within n o ≡ true → IsWithin o n × (is_top row o ≡ true)
  within_top n o e = let p = and_parts (is_within o n) (is_top row o) e in (within_is o n p.0, p.1)

  -- a top that is n or beneath it passes
  top_within_lem : (n o : ℕ) → 0 < n → o < 256 → IsWithin o n → is_top row o ≡ true → is_top_within n o ≡ true
  top_within_lem n o l h w e = and_from (is_within o n) (is_top row o) (within_from o n h l w) e

  -- beneath an unchanged node is no top
  unchanged_only : (n o : ℕ) → 0 < n → is_changed row n ≡ false → is_top_within n o ≡ true → o ≡ n
  unchanged_only n o l f e = let p = within_top n o e in elim (within_cases o n p.0) [
    | inl q ↦ q
    | inr b ↦
        let t = top_is o p.1 in
        let w = beneath_parent o n b in
        let i : IsInner n = (l, omega (arith, (changed_inner row (o / 2) t.above).1, halved_low w.0 (o / 2), w.1)) in
        absurd (both_ways (is_changed row n) f (changed_up row (o / 2) n i w t.above))
  ]

  -- the tops of a changed node are those of its children
  changed_splits : (n o : ℕ) → o < 256 → is_changed row n ≡ true → is_top_within n o ≡ true
      → (is_top_within (2 * n) o ≡ true) ⊎ (is_top_within (2 * n + 1) o ≡ true)
  changed_splits n o h c e = let l = (changed_inner row n c).0 in let p = within_top n o e in elim (within_cases o n p.0) [
    | inl q ↦ absurd (both_ways (is_changed row n) (sym (ap (is_changed row) q) ∙ (top_is o p.1).same) c)
    | inr b ↦ elim (beneath_child o n b) [
      | inl w ↦ inl (top_within_lem (2 * n) o (omega arith) h w p.1)
      | inr w ↦ inr (top_within_lem (2 * n + 1) o (omega arith) h w p.1)
    ]
  ]

  -- by how far n is from the leaves
  tops_fit : (k n : ℕ) → 256 ≤ n + k → 0 < n → n < 256 → passing_count (is_top_within n) ≤ width n
  tops_fit zero n g l h = absurd (omega arith)
  tops_fit (suc k) n g l h = elim (cases_Bool (is_changed row n)) [
    | inl t ↦
        let i = changed_inner row n t in
        let split = λ (o : ℕ) (j : In o tree_nodes) (e : is_top_within n o ≡ true). changed_splits n o (in_nodes o j) t e in
        omega (
          arith,
          kept_or (is_top_within n) (is_top_within (2 * n)) (is_top_within (2 * n + 1)) tree_nodes split,
          tops_fit k (2 * n) (omega arith) (omega arith) (omega arith),
          tops_fit k (2 * n + 1) (omega arith) (omega arith) (omega arith),
          children_fit n i,
        )
    | inr f ↦
        let alone = kept_le (is_top_within n) (λ o. eqb o n) tree_nodes (λ o j e. eq-eqb o n (unchanged_only n o l f e)) in
        omega (arith, alone, one_fits n l h)
  ]

  -- no more tops serve n than there are leaves beneath it
  few : (n : ℕ) → IsInner n → length (filter (user_oriented_rule row n) (candidates n)) ≤ width n
  few n i =
      omega (
        arith,
        candidates_kept (user_oriented_rule row n) n,
        tops_fit 256 n (omega arith) i.0 (omega arith),
        kept_le (λ o. user_oriented_rule row n (Present o)) (is_top_within n) tree_nodes (λ o j e.
            let p = and_parts (is_beneath o n) (is_top row o) e in
            top_within_lem n o i.0 (in_nodes o j) (beneath_within o n (beneath_is o n p.0)) p.1),
      )

  -- whatever serves a node may open it
  opens : (n : ℕ) (o : Opener) → user_oriented_rule row n o ≡ true → MayOpen row n o
  opens n (Former o) e = absurd (false≢true e)
  opens n (Present o) e = let p = and_parts (is_beneath o n) (is_top row o) e in ((top_is o p.1).occupied, beneath_is o n p.0)

  module _ (n u : ℕ) (c : is_changed row n ≡ true) where
    -- a top beneath n serves n at each leaf within the top
    top_serves : (k o : ℕ) → ancestor (suc k) o ≡ n → o < 256 → IsTop o → IsWithin u o → IsServed user_oriented_rule row n u
    top_serves k o b h t w =
        let l : 0 < o = omega (arith, (changed_inner row n c).0, halved_low (suc k) o) in
        let beneath = beneath_from o n h (changed_inner row n c).0 (k, b) in
        let serves = and_from (is_beneath o n) (is_top row o) beneath (top_from o l h t) in
        (Present o, (present_in n o l h, (serves, known_present row n u o w (k, b))))

    -- from the leaf upwards a top is met before n is
    climbs : (k o : ℕ) → ancestor (suc k) o ≡ n → o < 256 → is_occupied row o ≡ true → is_changed row o ≡ false
        → IsWithin u o → IsServed user_oriented_rule row n u
    climbs zero o b h e f w = top_serves 0 o b h (record { above = ap (is_changed row) b ∙ c; occupied = e; same = f }) w
    climbs (suc k) o b h e f w = elim (cases_Bool (is_changed row (o / 2))) [
      | inl t ↦ top_serves (suc k) o b h (record { above = t; occupied = e; same = f }) w
      | inr g ↦
          let up = halved_first (suc k) o ∙ b in
          let node : 0 < o / 2 = omega (arith, (changed_inner row n c).0, halved_low (suc k) (o / 2), up) in
          climbs k (o / 2) up (omega arith) (occupied_up row o (o / 2) node (1, refl) e) g (within_up u o w)
    ]

  -- whatever the row, this rule makes a lawful plan
  pub user_oriented_lawful : IsLawfulPlan row (plan user_oriented_rule row)
  user_oriented_lawful = lawful user_oriented_rule row (record {
    opens = λ n o i e. opens n o e;
    known = λ n u c l b e. climbs n u c b.0 u b.1 l.1 e (leaf_unchanged u l) (within_self u);
    few = few;
  })
