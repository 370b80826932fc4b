-- Codes that stand beneath a node, and the laws of changed and occupied nodes.
use Rattle.std.proofs.Common.{◌≡◌, ℕ, suc, ◌+◌, ◌*◌, ◌/◌, ◌<◌, Bool, true, false, not, ◌&&◌, ◌||◌, List, [], ◌∷◌, IsTrue, ◌↔◌, filter, sym, refl, ap, ◌∙◌, inl}
use Rattle.std.proofs.Common.{inr, arith}
use Rattle.std.specs.List.{range_with_len, list_any}
use Rattle.std.proofs.lemmas.Bool.{and_from, and_parts, or_cases, or_left, or_right, not-true}
use Rattle.tree.specs.declared.types.Code.{Code}
use Rattle.tree.specs.Tree.{IsWithin, IsLeaf, IsInner, is_within, is_inner, tree_leaves, inner_nodes, countdown}
use Rattle.tree.specs.Rows.{code_at, is_change_code, is_occupied_after, is_stay_code, is_departure_code, stands_within, is_changed, is_occupied, former_serves}
use Rattle.tree.specs.Rows.{changed_nodes}
use Rattle.tree.specs.Laws.{SomeBeneath}
use Rattle.tree.proofs.Members.{In, some_from, some_who, in_counting, counting_in, falling_in, in_kept, kept_in}
use Rattle.tree.proofs.Halvings.{within_is, within_from, within_self, within_trans, within_cases, beneath_within, beneath_child, leaf_alone, inner_is}
use Rattle.tree.proofs.Halvings.{inner_from, same_test}

-- a leaf whose code passes, at n or beneath it
pub record StandsWithin (test : Code → Bool) (row : List Code) (n : ℕ) : Type 0 where
  pub at : ℕ
  pub is_leaf : IsLeaf at
  pub under : IsWithin at n
  pub passes : test (code_at row at) ≡ true

module _ (test : Code → Bool) (row : List Code) where
  -- where the test passes, there is a leaf whose code passes, at n or beneath it
  pub stands_is : (n : ℕ) → stands_within test row n ≡ true → StandsWithin test row n
  unfolding stands_within tree_leaves
  stands_is n e =
      let w = some_who (λ u. is_within u n && test (code_at row u)) (range_with_len 128 128) e in
      let l = in_counting 128 128 w.0 w.1.0 in
      let p = and_parts (is_within w.0 n) (test (code_at row w.0)) w.1.1 in
      record { at = w.0; is_leaf = (l.0, l.1); under = within_is w.0 n p.0; passes = p.1 }

  -- where a leaf at n or beneath it has a code that passes, the test passes
  pub stands_from : (n u : ℕ) → 0 < n → IsLeaf u → IsWithin u n → test (code_at row u) ≡ true → stands_within test row n ≡ true
  unfolding stands_within tree_leaves
  stands_from n u o l w e =
      some_from (λ u. is_within u n && test (code_at row u)) (range_with_len 128 128) u (counting_in 128 128 u l.0 l.1)
      (and_from (is_within u n) (test (code_at row u)) (within_from u n l.1 o w) e)

  -- 0 is no node
  pub stands_zero : stands_within test row 0 ≡ false
  unfolding stands_within tree_leaves is_within
  stands_zero = none (range_with_len 128 128)
    where
      none : (us : List ℕ) → list_any (λ u. false && test (code_at row u)) us ≡ false
      none [] = refl
      none (u ∷ us) = none us

  -- at a leaf
  pub stands_leaf : (u : ℕ) → IsLeaf u → stands_within test row u ≡ test (code_at row u)
  stands_leaf u l = same_test (stands_within test row u) (test (code_at row u))
      (λ e. let s = stands_is u e in ap (λ v. test (code_at row v)) (sym (leaf_alone s.at u s.is_leaf.1 l.0 s.under)) ∙ s.passes)
      (λ e. stands_from u u (omega (arith, l.0)) l (within_self u) e)

  -- what stands beneath a node stands beneath those above it
  pub stands_up : (m n : ℕ) → 0 < n → IsWithin m n → stands_within test row m ≡ true → stands_within test row n ≡ true
  stands_up m n o w e = let s = stands_is m e in stands_from n s.at o s.is_leaf (within_trans s.at m n s.under w) s.passes

  -- beneath an inner node is what stands at its children or beneath them
  pub stands_children : (n : ℕ) → IsInner n → stands_within test row n ≡ (stands_within test row (2 * n) || stands_within test row (2 * n + 1))
  stands_children n i = same_test (stands_within test row n) (stands_within test row (2 * n) || stands_within test row (2 * n + 1)) down up
    where
      down : stands_within test row n ≡ true → (stands_within test row (2 * n) || stands_within test row (2 * n + 1)) ≡ true
      down e = let s = stands_is n e in elim (within_cases s.at n s.under) [
        | inl q ↦ absurd (omega (arith, s.is_leaf.0, i.1))
        | inr b ↦ elim (beneath_child s.at n b) [
          | inl w ↦
              or_left (stands_within test row (2 * n)) (stands_within test row (2 * n + 1))
              (stands_from (2 * n) s.at (omega (arith, i.0)) s.is_leaf w s.passes)
          | inr w ↦
              or_right (stands_within test row (2 * n)) (stands_within test row (2 * n + 1))
              (stands_from (2 * n + 1) s.at (omega arith) s.is_leaf w s.passes)
        ]
      ]

      half : (m : ℕ) → m / 2 ≡ n → stands_within test row m ≡ true → stands_within test row n ≡ true
      half m q e = stands_up m n i.0 (1, q) e

      up : (stands_within test row (2 * n) || stands_within test row (2 * n + 1)) ≡ true → stands_within test row n ≡ true
      up e = elim (or_cases (stands_within test row (2 * n)) (stands_within test row (2 * n + 1)) e) [
        | inl a ↦ half (2 * n) (omega arith) a
        | inr b ↦ half (2 * n + 1) (omega arith) b
      ]

  -- for an inner node, the test passes exactly where a leaf beneath has a code that passes
  pub stands_iff : (n : ℕ) → IsInner n → IsTrue (stands_within test row n) ↔ (SomeBeneath test row n)
  stands_iff n i = (down, λ w. stands_from n w.0 i.0 w.1.0 (beneath_within w.0 n w.1.1.0) w.1.1.1)
    where
      down : stands_within test row n ≡ true → SomeBeneath test row n
      down e = let s = stands_is n e in elim (within_cases s.at n s.under) [
        | inl q ↦ absurd (omega (arith, s.is_leaf.0, i.1))
        | inr b ↦ (s.at, (s.is_leaf, (b, s.passes)))
      ]

module _ (row : List Code) where
  -- only inner nodes are changed
  pub changed_inner : (n : ℕ) → is_changed row n ≡ true → IsInner n
  unfolding is_changed
  changed_inner n e = inner_is n (and_parts (is_inner n) (stands_within is_change_code row n) e).0

  -- all inner nodes above a changed one are changed
  pub changed_up : (m n : ℕ) → IsInner n → IsWithin m n → is_changed row m ≡ true → is_changed row n ≡ true
  unfolding is_changed
  changed_up m n i w e =
      let below = (and_parts (is_inner m) (stands_within is_change_code row m) e).1 in
      and_from (is_inner n) (stands_within is_change_code row n) (inner_from n i)
      (stands_up is_change_code row m n i.0 w below)

  -- exactly the inner nodes with somebody arriving or departing beneath them are changed
  pub changed_iff : (n : ℕ) → IsTrue (is_changed row n) ↔ (IsInner n × SomeBeneath is_change_code row n)
  unfolding is_changed
  changed_iff n = (
    (λ e.
        let p = and_parts (is_inner n) (stands_within is_change_code row n) e in
        let i = inner_is n p.0 in
        (i, (stands_iff is_change_code row n i).0 p.1)),
    λ w.
        and_from (is_inner n) (stands_within is_change_code row n) (inner_from n w.0)
        ((stands_iff is_change_code row n w.0).1 w.1),
  )

  -- an inner node is occupied exactly where somebody is beneath it after the change
  pub occupied_iff : (n : ℕ) → IsInner n → IsTrue (is_occupied row n) ↔ (SomeBeneath is_occupied_after row n)
  unfolding is_occupied
  occupied_iff n i = stands_iff is_occupied_after row n i

  -- a leaf is occupied as its own code says
  pub occupied_leaf : (u : ℕ) → IsLeaf u → is_occupied row u ≡ is_occupied_after (code_at row u)
  unfolding is_occupied
  occupied_leaf u l = stands_leaf is_occupied_after row u l

  -- above an occupied node all nodes are occupied
  pub occupied_up : (m n : ℕ) → 0 < n → IsWithin m n → is_occupied row m ≡ true → is_occupied row n ≡ true
  unfolding is_occupied
  occupied_up m n o w e = stands_up is_occupied_after row m n o w e

  -- where the former key serves, somebody stays within the node and nobody departs
  pub former_is : (n : ℕ) → former_serves row n ≡ true → (stands_within is_stay_code row n ≡ true) × (stands_within is_departure_code row n ≡ false)
  former_is n e =
      let p = and_parts (stands_within is_stay_code row n) (not (stands_within is_departure_code row n)) e in
      (p.0, not-true (stands_within is_departure_code row n) p.1)

  -- a changed node is in the list of the changed ones
  pub changed_in : (n : ℕ) → is_changed row n ≡ true → In n (changed_nodes row)
  unfolding changed_nodes inner_nodes
  changed_in n e = let i = changed_inner n e in kept_in (is_changed row) (countdown 127) n (falling_in 127 n i.0 (omega arith)) e

  -- each node of that list is changed
  pub in_changed : (n : ℕ) → In n (changed_nodes row) → is_changed row n ≡ true
  unfolding changed_nodes inner_nodes
  in_changed n h = (in_kept (is_changed row) (countdown 127) n h).1

  -- the changed nodes up to k, falling
  unfoldable pub changed_nodes_up_to : ℕ → List ℕ
  changed_nodes_up_to k = filter (is_changed row) (countdown k)

  -- up to 0, there are none
  pub changed_none : changed_nodes_up_to 0 ≡ []
  unfolding changed_nodes_up_to
  changed_none = refl

  -- a changed node comes in front of the smaller ones
  pub changed_yes : (k : ℕ) → is_changed row (suc k) ≡ true → changed_nodes_up_to (suc k) ≡ suc k ∷ changed_nodes_up_to k
  unfolding changed_nodes_up_to
  changed_yes k e = rw e refl

  -- an unchanged node adds nothing
  pub changed_no : (k : ℕ) → is_changed row (suc k) ≡ false → changed_nodes_up_to (suc k) ≡ changed_nodes_up_to k
  unfolding changed_nodes_up_to
  changed_no k e = rw e refl

  -- up to 127, they are all the changed nodes
  pub changed_all : changed_nodes_up_to 127 ≡ changed_nodes row
  unfolding changed_nodes_up_to changed_nodes inner_nodes
  changed_all = refl
