-- Clearing the keys of emptied leaves, and dealing keys to nodes, one after another.
use Rattle.std.proofs.Common.{◌≡◌, ℕ, suc, ◌+◌, ◌*◌, ◌<◌, ◌≤◌, Bool, true, false, cond, List, [], ◌∷◌, ◌++◌, filter, length, drop, drop-drop, get_or, set}
use Rattle.std.proofs.Common.{refl, ap, ◌∙◌, arith}
use Rattle.std.proofs.lemmas.List.{drop_more, drop_all}
use Rattle.tree.specs.Tree.{tree_leaves}
use Rattle.keys.specs.declared.NodeKey.{NodeKey}
use Rattle.keys.specs.Names.{unmade_key}
use Rattle.cradles.specs.Draws.{keys_without, drawn_key, keys_with_draws}
use Rattle.cradles.proofs.Gathering.{leaves_from, leaves_next, leaves_end}

-- 32 bytes further than i times 32
further : (material : List ℕ) (i : ℕ) → drop 32 (drop (32 * i) material) ≡ drop (32 * (i + 1)) material
further material i = let e : 32 * i + 32 ≡ 32 * (i + 1) = omega arith in drop-drop 32 (32 * i) material ∙ ap (λ k. drop k material) e

module _ (test : ℕ → Bool) where
  -- without the keys of what is left of the emptied leaves
  unfoldable pub keys_without_from : ℕ → List NodeKey → List NodeKey
  keys_without_from i nodes = keys_without (filter test (leaves_from i)) nodes

  -- before the first leaf, all emptied leaves are left
  pub cleared_none : (nodes : List NodeKey) → keys_without_from 0 nodes ≡ keys_without (filter test tree_leaves) nodes
  unfolding keys_without_from leaves_from tree_leaves
  cleared_none nodes = refl

  -- one leaf more: its key is cleared if it is emptied, and the later leaves are left
  pub cleared_next : (i : ℕ) (nodes : List NodeKey) → i < 128 →
      keys_without_from i nodes ≡ keys_without_from (i + 1) (cond (test (128 + i)) (set nodes (128 + i) unmade_key) nodes)
  unfolding keys_without_from
  cleared_next i nodes h = ap (λ us. keys_without (filter test us) nodes) (leaves_next i h) ∙ go (test (128 + i))
    where
      rest : List ℕ
      rest = filter test (leaves_from (i + 1))

      go : (b : Bool) → keys_without (cond b ((128 + i) ∷ rest) rest) nodes ≡ keys_without rest (cond b (set nodes (128 + i) unmade_key) nodes)
      go true = refl
      go false = refl

  -- after the last leaf no key is left to clear
  pub cleared_all : (i : ℕ) (nodes : List NodeKey) → 128 ≤ i → keys_without_from i nodes ≡ nodes
  unfolding keys_without_from
  cleared_all i nodes h = ap (λ us. keys_without (filter test us) nodes) (leaves_end i h)

module _ (epoch : ℕ) where
  -- what is left to deal, after the first i
  unfoldable pub keys_with_draws_from : ℕ → List ℕ → List ℕ → List NodeKey → List NodeKey
  keys_with_draws_from i ns material nodes = keys_with_draws epoch (drop i ns) (drop (32 * i) material) nodes

  -- before the first node, all are left to deal to
  pub deal_none : (ns material : List ℕ) (nodes : List NodeKey) → keys_with_draws_from 0 ns material nodes ≡ keys_with_draws epoch ns material nodes
  unfolding keys_with_draws_from
  deal_none ns material nodes = refl

  -- one node more gets its key, and the later nodes are left
  pub deal_next : (i : ℕ) (ns material : List ℕ) (nodes : List NodeKey) → i < length ns →
      keys_with_draws_from i ns material nodes ≡ keys_with_draws_from (i + 1) ns material (set nodes (get_or ns i 0) (drawn_key epoch (drop (32 * i) material)))
  unfolding keys_with_draws_from
  deal_next i ns material nodes h =
      ap (λ l. keys_with_draws epoch l (drop (32 * i) material) nodes) (drop_more ns i 0 h)
      ∙ ap (λ m. keys_with_draws epoch (drop (i + 1) ns) m (set nodes (get_or ns i 0) (drawn_key epoch (drop (32 * i) material)))) (further material i)

  -- after the last node there is nothing left to deal
  pub deal_all : (i : ℕ) (ns material : List ℕ) (nodes : List NodeKey) → length ns ≤ i →
      keys_with_draws_from i ns material nodes ≡ nodes
  unfolding keys_with_draws_from
  deal_all i ns material nodes h = ap (λ l. keys_with_draws epoch l (drop (32 * i) material) nodes) (drop_all i ns h)

  -- first to some, then to others, who get what is left
  pub dealt_both : (xs ys material : List ℕ) (nodes : List NodeKey) →
      keys_with_draws epoch (xs ++ ys) material nodes
      ≡ keys_with_draws epoch ys (drop (32 * length xs) material) (keys_with_draws epoch xs material nodes)
  dealt_both [] ys material nodes = refl
  dealt_both (x ∷ xs) ys material nodes =
      let e : 32 + 32 * length xs ≡ 32 * suc (length xs) = omega arith in
      let next : List NodeKey = set nodes x (drawn_key epoch material) in
      dealt_both xs ys (drop 32 material) next
      ∙ ap (λ m. keys_with_draws epoch ys m (keys_with_draws epoch xs (drop 32 material) next))
      (drop-drop (32 * length xs) 32 material ∙ ap (λ k. drop k material) e)
