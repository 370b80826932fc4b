-- The tests on nodes are the facts that they are named for.
use Rattle.std.specs.Prelude.{◌≡◌, ℕ, ◌<◌, Bool, IsTrue, ◌↔◌, List}
use Rattle.tree.specs.declared.types.Code.{Code}
use Rattle.tree.specs.Tree.{IsWithin, IsBeneath, IsLeaf, IsInner}
use Rattle.tree.specs.Tree.{is_within, is_beneath, is_leaf, is_inner}
use Rattle.tree.specs.Rows.{code_at, is_change_code, is_occupied_after, stands_within}
use Rattle.tree.specs.Rows.{is_changed, is_occupied}

-- some leaf beneath n has a code that passes
abbrev pub SomeBeneath : (Code → Bool) → List Code → ℕ → Type 0
SomeBeneath test row n =
    (u : ℕ) × (IsLeaf u × (IsBeneath u n × IsTrue (test (code_at row u))))

-- the tests on nodes, and what stands beneath them, by the halving of numbers
pub record TreeLaws : Type 0 where
  -- m is n or beneath it: n is a node, and m halved any number of times, also never, gives n
  pub within_by_halving : (m n : ℕ) → m < 256 → IsTrue (is_within m n) ↔ ((0 < n) × IsWithin m n)
  -- m is beneath n: n is a node, and m halved one or more times gives n
  pub beneath_by_halving : (m n : ℕ) → m < 256
      → IsTrue (is_beneath m n) ↔ ((0 < n) × IsBeneath m n)
  -- the leaves are 128 to 255
  pub leaves_by_number : (u : ℕ) → IsTrue (is_leaf u) ↔ IsLeaf u
  -- the inner nodes are 1 to 127
  pub inners_by_number : (n : ℕ) → IsTrue (is_inner n) ↔ IsInner n
  -- a code that passes stands beneath an inner node: some leaf beneath it has one
  pub stands_beneath : (test : Code → Bool) (row : List Code) (n : ℕ) → IsInner n
      → IsTrue (stands_within test row n) ↔ (SomeBeneath test row n)
  -- the changed nodes are the inner nodes that a code 2, 3 or 4 stands beneath, and no others
  pub changed_by_codes : (row : List Code) (n : ℕ)
      → IsTrue (is_changed row n) ↔ (IsInner n × SomeBeneath is_change_code row n)
  -- an inner node is occupied where a code 1, 2 or 4 stands beneath it
  pub occupied_inner : (row : List Code) (n : ℕ) → IsInner n
      → IsTrue (is_occupied row n) ↔ (SomeBeneath is_occupied_after row n)
  -- a leaf is occupied where its own code is 1, 2 or 4
  pub occupied_leaf : (row : List Code) (u : ℕ) → IsLeaf u
      → is_occupied row u ≡ is_occupied_after (code_at row u)
