-- The key tree: nodes 1 to 255, node 1 the root, the half of a node's number its parent's.
use Rattle.std.specs.Prelude.{◌≡◌, ℕ, zero, suc, ◌/◌, ◌<◌, ◌≤◌, Bool, ◌&&◌, List, [], ◌∷◌}
use Rattle.std.specs.Prelude.{nat_eq, nat_le, nat_lt}
use Rattle.std.specs.List.{range_with_len, list_any}

-- n halved k times, remainders dropped: the node k levels above n, or 0
abbrev pub ancestor : ℕ → ℕ → ℕ
ancestor zero n = n
ancestor (suc k) n = ancestor k n / 2

-- m is n or beneath it: halving it some number of times, also never, gives n
abbrev pub IsWithin : ℕ → ℕ → Type 0
IsWithin m n = (k : ℕ) × (ancestor k m ≡ n)

-- m is beneath n: halving it one or more times gives n
abbrev pub IsBeneath : ℕ → ℕ → Type 0
IsBeneath m n = (k : ℕ) × (ancestor (suc k) m ≡ n)

-- the leaves are 128 to 255: cradle c has the leaf 127 + c
abbrev pub IsLeaf : ℕ → Type 0
IsLeaf u = (128 ≤ u) × (u < 256)

-- the inner nodes, those with two children, are 1 to 127
abbrev pub IsInner : ℕ → Type 0
IsInner n = (0 < n) × (n < 128)

-- The same as tests.

-- m is n or beneath it, as a test; seven halvings are enough, since one more makes 0 of any node
unfoldable pub is_within : ℕ → ℕ → Bool
is_within m n = nat_lt 0 n && list_any (λ k. nat_eq (ancestor k m) n) (range_with_len 0 8)

-- m is beneath n, as a test: halved once, and then any number of times, m gives n
abbrev pub is_beneath : ℕ → ℕ → Bool
is_beneath m n = is_within (m / 2) n

-- u is a leaf, as a test
abbrev pub is_leaf : ℕ → Bool
is_leaf u = nat_le 128 u && nat_lt u 256

-- n is an inner node, as a test
abbrev pub is_inner : ℕ → Bool
is_inner n = nat_lt 0 n && nat_lt n 128

-- Nodes in their orders.

-- all nodes, rising: 1, 2, .. 255
unfoldable pub tree_nodes : List ℕ
tree_nodes = range_with_len 1 255

-- all leaves, rising: 128, 129, .. 255
unfoldable pub tree_leaves : List ℕ
tree_leaves = range_with_len 128 128

-- the numbers k, k - 1, .. 1
abbrev pub countdown : ℕ → List ℕ
countdown zero = []
countdown (suc k) = suc k ∷ countdown k

-- all inner nodes, falling: 127, 126, .. 1
unfoldable pub inner_nodes : List ℕ
inner_nodes = countdown 127
