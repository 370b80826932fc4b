-- Filling a table of the nodes downwards.
use Rattle.std.proofs.Common.{◌≡◌, ℕ, ◌+◌, ◌-◌, ◌*◌, ◌<◌, ◌≤◌, List, length, get_or, set, replicate, sym, refl, ap, ◌∙◌, subst, inl, inr, arith}
use Rattle.std.proofs.lemmas.List.{length-set, get_or-set_same, get_or-set_other}
use Rattle.std.proofs.lemmas.Bool.{cases_eq, cases_lt}
use Rattle.tree.specs.declared.types.Code.{Code}
use Rattle.tree.specs.declared.codes.Standing.{Standing}
use Rattle.tree.specs.Tree.{IsLeaf, IsInner}
use Rattle.tree.specs.Rows.{code_at, is_change_code, is_occupied_after, is_stay_code, is_departure_code, is_occupied, empty_standing, standing_of, standing_or}
use Rattle.tree.specs.Rows.{standing_at, IsStandingTable}
use Rattle.tree.proofs.Standing.{stands_zero, stands_leaf, stands_children}

-- nothing stands at 0, which is no node
pub standing_zero : (row : List Code) → standing_at row 0 ≡ empty_standing
unfolding is_occupied
standing_zero row =
    let a = stands_zero is_change_code row in
    let b = stands_zero is_occupied_after row in
    let c = stands_zero is_stay_code row in
    let d = stands_zero is_departure_code row in
    cc

-- at a leaf stands what its own code says
pub standing_leaf : (row : List Code) (u : ℕ) → IsLeaf u → standing_at row u ≡ standing_of (code_at row u)
unfolding is_occupied
standing_leaf row u l =
    let a = stands_leaf is_change_code row u l in
    let b = stands_leaf is_occupied_after row u l in
    let c = stands_leaf is_stay_code row u l in
    let d = stands_leaf is_departure_code row u l in
    cc

-- at an inner node stands what stands at either of its children
pub standing_inner : (row : List Code) (n : ℕ) → IsInner n → standing_at row n ≡ standing_or (standing_at row (2 * n)) (standing_at row (2 * n + 1))
unfolding is_occupied
standing_inner row n i =
    let a = stands_children is_change_code row n i in
    let b = stands_children is_occupied_after row n i in
    let c = stands_children is_stay_code row n i in
    let d = stands_children is_departure_code row n i in
    cc

-- from n on the table is right, and nothing stands at 0
pub record IsRightFrom (n : ℕ) (row : List Code) (table : List Standing) : Type 0 where
  pub long : length table ≡ 256
  pub zero_none : get_or table 0 empty_standing ≡ empty_standing
  pub right : (k : ℕ) → n ≤ k → k < 256 → get_or table k empty_standing ≡ standing_at row k

-- a table in which nothing stands is right from 256 on, behind all nodes
pub right_none : (row : List Code) (s : Standing) → s ≡ empty_standing → IsRightFrom 256 row (replicate 256 s)
right_none row s e = rw e (record { long = refl; zero_none = refl; right = λ k lo hi. absurd (omega arith) })

-- one entry more
pub right_more : (row : List Code) (table : List Standing) (n : ℕ) (s : Standing) → 1 < n → n ≤ 256 → s ≡ standing_at row (n - 1)
    → IsRightFrom n row table → IsRightFrom (n - 1) row (set table (n - 1) s)
right_more row table n s l h e r = record {
  long = length-set table (n - 1) s ∙ r.long;
  zero_none = get_or-set_other table (n - 1) 0 s empty_standing (λ q. omega arith) ∙ r.zero_none;
  right = λ k lo hi. elim (cases_eq k (n - 1)) [
    | inl q ↦
        subst (λ (i : ℕ). get_or (set table (n - 1) s) i empty_standing ≡ standing_at row i) (sym q)
        (get_or-set_same table (n - 1) s empty_standing (omega (arith, r.long)) ∙ e)
    | inr x ↦ get_or-set_other table (n - 1) k s empty_standing x ∙ r.right k (omega arith) hi
  ];
}

-- a table that is right from node 1 on is right at every number
pub right_all : (row : List Code) (table : List Standing) (n : ℕ) → n ≤ 1 → IsRightFrom n row table → IsStandingTable row table
right_all row table n h r k hi = elim (cases_lt 0 k) [
  | inl l ↦ r.right k (omega arith) hi
  | inr g ↦
      let e : k ≡ 0 = omega arith in
      ap (λ i. get_or table i empty_standing) e ∙ r.zero_none ∙ sym (ap (standing_at row) e ∙ standing_zero row)
]
