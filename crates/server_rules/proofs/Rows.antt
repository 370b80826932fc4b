-- The codes of a server's cradles at their leaves, and that something noted reaches the root.
use Rattle.std.specs.List.{list_any}
use Rattle.std.proofs.Common.{◌≡◌, ℕ, zero, suc, ◌+◌, ◌-◌, ◌/◌, ◌<◌, ◌≤◌, Bool, true, List, [], ◌∷◌, length, get_or, refl, ap, ◌∙◌, inl, inr, arith}
use Rattle.std.proofs.Math.ListN.{get_or-map}
use Rattle.std.proofs.lemmas.Bool.{cases_eq, and_from, or_cases, false≢true}
use Rattle.tree.specs.declared.types.Code.TheVariants as codes
use Rattle.tree.specs.Tree.{IsLeaf, IsWithin, is_inner}
use Rattle.tree.specs.Rows.{code_at, is_change_code, stands_within, is_changed}
use Rattle.tree.proofs.Halvings.{within_trans, inner_from}
use Rattle.tree.proofs.Standing.{stands_from}
use Rattle.cradles.specs.declared.Cradle.TheVariants.{Empty}
use Rattle.cradles.specs.Cradles.{cradle_code, IsCradle}
use Rattle.server_rules.specs.declared.state.State.{State}
use Rattle.server_rules.specs.States.{cradle, leaf_of, row, has_notes}
use Rattle.server_rules.specs.Sound.{IsSoundServer}

-- the leaf of a cradle is one
pub cradled_leaf : (c : ℕ) → IsCradle c → IsLeaf (leaf_of c)
cradled_leaf c h = (omega arith, omega arith)

-- the code of a cradle stands at its leaf
pub code_at_leaf : (s : State) (c : ℕ) → IsCradle c → code_at (row s) (leaf_of c) ≡ cradle_code (cradle s c)
code_at_leaf s c h =
    let e : leaf_of c - 128 ≡ c - 1 = omega arith in
    ap (λ i. get_or (row s) i codes.Empty) e ∙ get_or-map cradle_code s.cradles (c - 1) Empty

-- a leaf is that of a cradle
pub cradle_of : (u : ℕ) → IsLeaf u → (c : ℕ) × (IsCradle c × (leaf_of c ≡ u))
cradle_of u l = (u - 127, ((omega arith, omega arith), omega arith))

-- every node is within the root
within_root : (k n : ℕ) → 0 < n → n ≤ k → IsWithin n 1
within_root zero n o h = absurd (omega arith)
within_root (suc k) n o h = elim (cases_eq n 1) [
  | inl e ↦ (0, e)
  | inr x ↦ within_trans n (n / 2) 1 (1, refl) (within_root k (n / 2) (omega arith) (omega arith))
]

-- every node is the root or beneath it
pub root_above : (n : ℕ) → 0 < n → IsWithin n 1
root_above n o = within_root n n o (omega arith)

module _ {A : Type 0} (test : A → Bool) (d : A) where
  -- where some element passes, one at an index does
  pub any_who : (xs : List A) → list_any test xs ≡ true → (i : ℕ) × ((i < length xs) × (test (get_or xs i d) ≡ true))
  any_who [] e = absurd (false≢true e)
  any_who (x ∷ xs) e = elim (or_cases (test x) (list_any test xs) e) [
    | inl q ↦ (0, (omega arith, q))
    | inr r ↦ let w = any_who xs r in (suc w.0, (omega (arith, w.1.0), w.1.1))
  ]

-- with something noted the root gets a new key
pub noted_root : (s : State) → IsSoundServer s → has_notes s ≡ true → is_changed (row s) 1 ≡ true
unfolding is_changed
noted_root s sound e =
    let w = any_who (λ c. is_change_code (cradle_code c)) Empty s.cradles e in
    let h : w.0 < 128 = omega (arith, w.1.0, sound.cradle_count) in
    let c : IsCradle (w.0 + 1) = (omega arith, omega arith) in
    let q : w.0 + 1 - 1 ≡ w.0 = omega arith in
    and_from (is_inner 1) (stands_within is_change_code (row s) 1) (inner_from 1 (omega arith, omega arith))
    (stands_from is_change_code (row s) 1 (leaf_of (w.0 + 1)) (omega arith) (cradled_leaf (w.0 + 1) c) (root_above (leaf_of (w.0 + 1)) (omega arith))
    (ap is_change_code (code_at_leaf s (w.0 + 1) c) ∙ ap (λ i. is_change_code (cradle_code (get_or s.cradles i Empty))) q ∙ w.1.1))
