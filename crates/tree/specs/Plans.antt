-- A plan is a list of pairs of an opener and a content, and what makes it lawful for a row.
use Rattle.std.specs.Prelude.{◌≡◌, ℕ, ◌≤◌, IsTrue, IsFalse, ◌⊎◌, List, length, Contains}
use Rattle.tree.specs.declared.limits.TheConstants.{CRADLES, MOST_PAIRS}
use Rattle.tree.specs.declared.types.Code.{Code}
use Rattle.tree.specs.declared.types.Code.TheVariants.{Stays}
use Rattle.tree.specs.declared.types.Opener.{Opener}
use Rattle.tree.specs.declared.types.Opener.TheVariants.{Present, Former}
use Rattle.tree.specs.declared.types.Pair.{Pair}
use Rattle.tree.specs.Tree.{IsLeaf, IsBeneath}
use Rattle.tree.specs.Rows.{code_at, is_stay_code, is_departure_code, stands_within}
use Rattle.tree.specs.Rows.{is_changed, is_occupied}

-- the wrap to be made of the new key of n under the opener o
abbrev pub pair : Opener → ℕ → Pair
pair o n = record { opener = o; content = n }

-- what may open the content n: the key of an occupied node beneath it,
-- or its own former key, if somebody stays beneath it and nobody departs
abbrev pub MayOpen : List Code → ℕ → Opener → Type 0
MayOpen row n (Present o) = IsTrue (is_occupied row o) × IsBeneath o n
MayOpen row n (Former o) =
    (o ≡ n)
    × (IsTrue (stands_within is_stay_code row n)
    × IsFalse (stands_within is_departure_code row n))

-- the opener is known at the leaf u beneath n: it is the leaf's key, that of a node above the leaf
-- and beneath n, or the former key of n where u stays
abbrev pub IsKnownAt : List Code → ℕ → ℕ → Opener → Type 0
IsKnownAt row n u (Present o) = (o ≡ u) ⊎ (IsBeneath o n × IsBeneath u o)
IsKnownAt row n u (Former o) = (o ≡ n) × (code_at row u ≡ Stays)

-- a pair of the plan with the content n, whose opener is known at the leaf u
abbrev pub IsServedAt : List Code → List Pair → ℕ → ℕ → Type 0
IsServedAt row plan n u = (o : Opener) × (Contains plan (pair o n) × IsKnownAt row n u o)

-- what a plan owes to its row
pub record IsLawfulPlan (row : List Code) (plan : List Pair) : Type 0 where
  -- each content is a node that gets a new key
  pub contents : (p : Pair) → Contains plan p → IsTrue (is_changed row p.content)
  -- nobody gets a key by a key that the change takes away: each opener may open its content
  pub openers : (p : Pair) → Contains plan p → MayOpen row p.content p.opener
  -- nobody is left out: each occupied leaf beneath a changed node knows an opener of the new key
  pub served : (n u : ℕ) → IsTrue (is_changed row n) → IsLeaf u → IsBeneath u n
      → IsTrue (is_occupied row u) → IsServedAt row plan n u
  -- no more pairs than a pair buffer has room for
  pub few : length plan ≤ MOST_PAIRS

-- a strategy means one plan for every row
abbrev pub StrategyMeaning : Type 0
StrategyMeaning = List Code → List Pair

-- what is asked of a strategy: its plan for every row with a code for each cradle is lawful
abbrev pub IsLawfulStrategy : StrategyMeaning → Type 0
IsLawfulStrategy meaning =
    (row : List Code) → length row ≡ CRADLES → IsLawfulPlan row (meaning row)
