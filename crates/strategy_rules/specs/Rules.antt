-- The plans of the three strategies, each by a rule that says which opener serves which content.
use Rattle.std.specs.Prelude.{ℕ, ◌+◌, ◌*◌, ◌/◌, Bool, false, if◌then◌else◌, not, ◌&&◌, ◌||◌, ◌==◌}
use Rattle.std.specs.Prelude.{List, ◌∷◌, map, filter}
use Rattle.std.specs.List.{flat_map}
use Rattle.tree.specs.declared.types.Code.{Code}
use Rattle.tree.specs.declared.types.Opener.{Opener}
use Rattle.tree.specs.declared.types.Opener.TheVariants.{Present, Former}
use Rattle.tree.specs.declared.types.Pair.{Pair}
use Rattle.tree.specs.Tree.{is_beneath, is_leaf, is_inner, tree_nodes}
use Rattle.tree.specs.Rows.{is_arrival_in_empty, code_at, is_changed, is_occupied}
use Rattle.tree.specs.Rows.{former_serves, changed_nodes}
use Rattle.tree.specs.Plans.{pair}

-- for a row, a content and an opener: whether the opener serves the content
abbrev pub Rule : Type 0
Rule = List Code → ℕ → Opener → Bool

-- what can serve n, in plan order: its own former key, then the present keys of the nodes, rising
unfoldable pub candidates : ℕ → List Opener
candidates n = Former n ∷ map Present tree_nodes

-- the pairs with the content n under those of some openers that serve it
abbrev pub pairs_under : Rule → List Code → ℕ → List Opener → List Pair
pairs_under rule row n openers = map (λ o. pair o n) (filter (rule row n) openers)

-- the pairs with the content n
unfoldable pub pairs_for : Rule → List Code → ℕ → List Pair
pairs_for rule row n = pairs_under rule row n (candidates n)

-- the changed nodes by falling number, each under the openers that serve it, rising
unfoldable pub plan : Rule → List Code → List Pair
plan rule row = flat_map (pairs_for rule row) (changed_nodes row)

-- star: under each occupied leaf beneath n
abbrev pub star_rule : Rule
star_rule row n (Former o) = false
star_rule row n (Present o) = is_leaf o && (is_beneath o n && is_occupied row o)

-- a top has a changed parent and is an occupied leaf or an occupied unchanged inner node
abbrev pub is_top : List Code → ℕ → Bool
is_top row o =
    is_changed row (o / 2)
    && (is_occupied row o && (is_leaf o || (is_inner o && not (is_changed row o))))

-- user-oriented: under each top beneath n
abbrev pub user_oriented_rule : Rule
user_oriented_rule row n (Former o) = false
user_oriented_rule row n (Present o) = is_beneath o n && is_top row o

-- o is one of the two children of n
abbrev pub is_child : ℕ → ℕ → Bool
is_child o n = o == 2 * n || o == 2 * n + 1

-- key-oriented: if somebody stays and nobody departs beneath n, under n's former key and under each
-- leaf beneath that somebody arrives at; otherwise under each occupied child
abbrev pub key_oriented_rule : Rule
key_oriented_rule row n (Former o) = former_serves row n
key_oriented_rule row n (Present o) =
    if former_serves row n
    then is_leaf o && (is_beneath o n && is_arrival_in_empty (code_at row o))
    else is_child o n && is_occupied row o
