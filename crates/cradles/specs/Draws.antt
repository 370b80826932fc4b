-- What a publishing draws from its material, and the keys after it.
use Rattle.std.specs.Prelude.{ℕ, ◌*◌, Bool, true, false, List, [], ◌∷◌, ◌++◌, filter, length, take}
use Rattle.std.specs.Prelude.{drop, slice_set}
use Rattle.tree.specs.declared.types.Code.{Code}
use Rattle.tree.specs.declared.types.Code.TheVariants.{Empty, Stays, Arrives, Departs, Swaps}
use Rattle.tree.specs.Tree.{tree_leaves}
use Rattle.tree.specs.Rows.{code_at, changed_nodes}
use Rattle.keys.specs.declared.NodeKey.{NodeKey}
use Rattle.keys.specs.Names.{unmade_key}

-- 2 or 4: a scanner arrives
abbrev pub is_arrival_code : Code → Bool
is_arrival_code Empty = false
is_arrival_code Stays = false
is_arrival_code Arrives = true
is_arrival_code Departs = false
is_arrival_code Swaps = true

-- 3: the change empties the cradle
abbrev pub is_emptying_code : Code → Bool
is_emptying_code Empty = false
is_emptying_code Stays = false
is_emptying_code Arrives = false
is_emptying_code Departs = true
is_emptying_code Swaps = false

-- the leaves of the arrivals, by rising cradle
unfoldable pub arrival_leaves : List Code → List ℕ
arrival_leaves row = filter (λ u. is_arrival_code (code_at row u)) tree_leaves

-- the leaves that the change empties, by rising cradle
unfoldable pub emptied_leaves : List Code → List ℕ
emptied_leaves row = filter (λ u. is_emptying_code (code_at row u)) tree_leaves

-- the nodes that get a drawn key, in the order of the draws: the leaf of each arrival, by rising
-- cradle, then each changed node, by falling number
abbrev pub receivers : List Code → List ℕ
receivers row = arrival_leaves row ++ changed_nodes row

-- how many bytes are drawn: 32 for each of them
abbrev pub drawn_size : List Code → ℕ
drawn_size row = 32 * length (receivers row)

-- the keys with those of these nodes cleared
abbrev pub keys_without : List ℕ → List NodeKey → List NodeKey
keys_without [] nodes = nodes
keys_without (u ∷ us) nodes = keys_without us (slice_set nodes u unmade_key)

-- the key that is drawn next: the first 32 bytes of the material, made in that epoch
abbrev pub drawn_key : ℕ → List ℕ → NodeKey
drawn_key epoch material = record { made = epoch; key = take 32 material }

-- the keys with one drawn for each of these nodes, in their order
abbrev pub keys_with_draws : ℕ → List ℕ → List ℕ → List NodeKey → List NodeKey
keys_with_draws epoch [] material nodes = nodes
keys_with_draws epoch (n ∷ ns) material nodes =
    keys_with_draws epoch ns (drop 32 material) (slice_set nodes n (drawn_key epoch material))

-- the keys of the nodes after a change that begins that epoch: those of emptied leaves are cleared,
-- then each receiver has its new one
abbrev pub keys_after_change : ℕ → List Code → List ℕ → List NodeKey → List NodeKey
keys_after_change epoch row material nodes =
    keys_with_draws epoch (receivers row) material (keys_without (emptied_leaves row) nodes)
