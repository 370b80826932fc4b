-- Leaves beneath a node, and how many there are.
use Rattle.std.proofs.Common.{◌≡◌, ℕ, zero, suc, ◌+◌, ◌*◌, ◌<◌, ◌≤◌, Bool, true, cond, ◌&&◌, eqb, ltb, leb, List, [], ◌∷◌, length, filter, refl, inl, inr}
use Rattle.std.proofs.Common.{arith}
use Rattle.std.specs.List.{range_with_len}
use Rattle.std.proofs.lemmas.Bool.{and_parts, and_from, leb-true}
use Rattle.tree.specs.Tree.{IsLeaf, IsInner, IsWithin, IsBeneath, is_leaf, is_within, is_beneath, tree_nodes}
use Rattle.tree.proofs.Members.{In, in_counting, counting_in}
use Rattle.tree.proofs.Halvings.{leaf_is, leaf_from, within_from, beneath_is, beneath_from, beneath_within}
use Rattle.strategy_rules.proofs.Kept.{kept_le, kept_lt}

-- how many nodes pass
abbrev pub passing_count : (ℕ → Bool) → ℕ
passing_count test = length (filter test tree_nodes)

-- each number from 1 to 255 is a node
pub node_in : (n : ℕ) → 0 < n → n < 256 → In n tree_nodes
unfolding tree_nodes
node_in n l h = counting_in 1 255 n (omega arith) (omega arith)

-- every node is below 256
pub in_nodes : (n : ℕ) → In n tree_nodes → n < 256
unfolding tree_nodes
in_nodes n i = omega (arith, (in_counting 1 255 n i).1)

-- one from the leaves on, and twice as many on each level above
abbrev width_by_depth : ℕ → ℕ → ℕ
width_by_depth zero n = 1
width_by_depth (suc k) n = cond (ltb n 128) (2 * width_by_depth k (2 * n)) 1

-- the number of leaves at n or beneath it, which no node's pairs exceed
pub width : ℕ → ℕ
width n = width_by_depth 7 n

-- the leaves at 1 or beneath it, at 2, .. and at k, added
abbrev pub width_sum : ℕ → ℕ
width_sum zero = 0
width_sum (suc k) = width (suc k) + width_sum k

-- every leaf has seven nodes above it
pub all_widths : width_sum 127 ≡ 896
unfolding width
all_widths = refl

-- the leaves at n or beneath it
is_leaf_within : ℕ → ℕ → Bool
is_leaf_within n u = is_leaf u && is_within u n

-- a leaf that is n or beneath it passes
leaf_within_lem : (n u : ℕ) → 0 < n → IsLeaf u → IsWithin u n → is_leaf_within n u ≡ true
unfolding is_leaf_within
leaf_within_lem n u o l w = and_from (is_leaf u) (is_within u n) (leaf_from u l) (within_from u n l.1 o w)

-- f is at most g: computed at all numbers of a list, and so at each
abbrev is_at_most : (ℕ → ℕ) → (ℕ → ℕ) → List ℕ → Bool
is_at_most f g [] = true
is_at_most f g (x ∷ xs) = leb (f x) (g x) && is_at_most f g xs

-- where the test passes, f is at most g at each number of the list
at_most_lem : (f g : ℕ → ℕ) (xs : List ℕ) (x : ℕ) → is_at_most f g xs ≡ true → In x xs → f x ≤ g x
at_most_lem f g [] x e i = absurd i
at_most_lem f g (y ∷ ys) x e (inl q) = rw q (leb-true (f y) (g y) (and_parts (leb (f y) (g y)) (is_at_most f g ys) e).0)
at_most_lem f g (y ∷ ys) x e (inr i) = at_most_lem f g ys x (and_parts (leb (f y) (g y)) (is_at_most f g ys) e).1 i

-- an inner node has no more leaves beneath it than its width
leaves_few : (n : ℕ) → IsInner n → passing_count (is_leaf_within n) ≤ width n
unfolding width is_leaf_within is_within tree_nodes
leaves_few n i = at_most_lem (λ m. passing_count (is_leaf_within m)) width (range_with_len 1 127) n refl (counting_in 1 127 n (omega arith) (omega arith))

-- each node is one
pub one_fits : (n : ℕ) → 0 < n → n < 256 → passing_count (λ o. eqb o n) ≤ width n
unfolding width tree_nodes
one_fits n l h = at_most_lem (λ m. passing_count (λ o. eqb o m)) width (range_with_len 1 255) n refl (counting_in 1 255 n (omega arith) (omega arith))

-- the widths of two children add up to no more than that of their parent
pub children_fit : (n : ℕ) → IsInner n → width (2 * n) + width (2 * n + 1) ≤ width n
unfolding width
children_fit n i = at_most_lem (λ m. width (2 * m) + width (2 * m + 1)) width (range_with_len 1 127) n refl (counting_in 1 127 n (omega arith) (omega arith))

module _ (test : ℕ → Bool) (n : ℕ) where
  -- a leaf beneath n that passes
  pub record IsLeafUnder (o : ℕ) : Type 0 where
    pub leaf : IsLeaf o
    pub under : IsBeneath o n
    pub passes : test o ≡ true

  -- what passes all three tests is a leaf, beneath n, and passes the last of them
  pub leaf_under : (o : ℕ) → (is_leaf o && (is_beneath o n && test o)) ≡ true → IsLeafUnder o
  leaf_under o e =
      let a = and_parts (is_leaf o) (is_beneath o n && test o) e in
      let b = and_parts (is_beneath o n) (test o) a.1 in
      record { leaf = leaf_is o a.0; under = beneath_is o n b.0; passes = b.1 }

  -- a leaf beneath n that passes, passes all three tests
  pub under_from : (o : ℕ) → 0 < n → IsLeafUnder o → (is_leaf o && (is_beneath o n && test o)) ≡ true
  under_from o l w = rw (leaf_from o w.leaf, beneath_from o n w.leaf.1 l w.under, w.passes) refl

  module _ (p : ℕ → Bool) (i : IsInner n) (all : (o : ℕ) → p o ≡ true → IsLeafUnder o) where
    -- whatever p lets pass is a leaf beneath n
    each : (o : ℕ) → p o ≡ true → is_leaf_within n o ≡ true
    each o e = let a = all o e in leaf_within_lem n o i.0 a.leaf (beneath_within o n a.under)

    -- p lets no more pass than there are leaves beneath n
    pub leaves_fit : passing_count p ≤ width n
    leaves_fit = omega (arith, kept_le p (is_leaf_within n) tree_nodes (λ o _ e. each o e), leaves_few n i)

    -- one of the leaves is left out
    pub leaves_fit_but : (u : ℕ) → IsLeaf u → IsWithin u n → (p u ≡ true → ⊥) → passing_count p < width n
    leaves_fit_but u l w f =
        let left_out = leaf_within_lem n u i.0 l w in
        let fewer = kept_lt p (is_leaf_within n) tree_nodes u (λ o _ e. each o e) (node_in u (omega arith) l.1) f left_out in
        omega (arith, fewer, leaves_few n i)
