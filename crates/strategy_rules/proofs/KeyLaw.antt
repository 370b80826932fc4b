-- The key-oriented plan is lawful for every row.
use Rattle.std.proofs.Common.{◌≡◌, ℕ, ◌+◌, ◌*◌, ◌/◌, ◌<◌, ◌≤◌, Bool, true, false, ◌&&◌, eqb, List, length, filter, sym, refl, ap, ◌∙◌, inl, inr, arith}
use Rattle.std.proofs.lemmas.Bool.{and_parts, and_from, or_cases, or_right, cases_Bool, cases_eq, both_ways, eqb-true, eq-eqb, cond-true, cond-false}
use Rattle.std.proofs.lemmas.Bool.{false≢true}
use Rattle.tree.specs.declared.types.Code.{Code}
use Rattle.tree.specs.declared.types.Code.TheVariants.{Empty, Stays, Arrives, Departs, Swaps}
use Rattle.tree.specs.declared.types.Opener.{Opener}
use Rattle.tree.specs.declared.types.Opener.TheVariants.{Present, Former}
use Rattle.tree.specs.Tree.{ancestor, IsLeaf, IsInner, IsWithin, IsBeneath, is_leaf, is_beneath, tree_nodes}
use Rattle.tree.specs.Rows.{is_occupied_after, is_stay_code, is_departure_code, is_arrival_in_empty, code_at, stands_within, is_changed, is_occupied}
use Rattle.tree.specs.Rows.{former_serves}
use Rattle.tree.specs.Plans.{MayOpen, IsLawfulPlan}
use Rattle.tree.proofs.Halvings.{beneath_within}
use Rattle.tree.proofs.Standing.{stands_is, stands_from, changed_inner, occupied_leaf, occupied_up, former_is}
use Rattle.strategy_rules.specs.Rules.{candidates, key_oriented_rule, is_child, plan}
use Rattle.strategy_rules.proofs.Kept.{bit, kept_or}
use Rattle.strategy_rules.proofs.Widths.{width, IsLeafUnder, leaf_under, under_from, leaves_fit_but, one_fits, children_fit}
use Rattle.strategy_rules.proofs.Planned.{former_in, present_in, former_own, candidates_kept, IsServed, known_present, lawful}
use Rattle.tree.proofs.Members.{In}

-- just one code says that somebody arrives in an empty cradle
arrives_only : (c : Code) → is_arrival_in_empty c ≡ true → c ≡ Arrives
arrives_only Empty e = absurd (false≢true e)
arrives_only Stays e = absurd (false≢true e)
arrives_only Arrives e = refl
arrives_only Departs e = absurd (false≢true e)
arrives_only Swaps e = absurd (false≢true e)

-- half of a child's number is its parent's
child_half : (n o : ℕ) → is_child o n ≡ true → o / 2 ≡ n
child_half n o e = elim (or_cases (eqb o (2 * n)) (eqb o (2 * n + 1)) e) [
  | inl q ↦ omega (arith, eqb-true o (2 * n) q)
  | inr q ↦ omega (arith, eqb-true o (2 * n + 1) q)
]

-- a number whose half is n is a child of n
half_child : (n o : ℕ) → o / 2 ≡ n → is_child o n ≡ true
half_child n o q = elim (cases_eq o (2 * n)) [
  | inl e ↦ rw (eq-eqb o (2 * n) e) refl
  | inr x ↦ or_right (eqb o (2 * n)) (eqb o (2 * n + 1)) (eq-eqb o (2 * n + 1) (omega arith))
]

module _ (row : List Code) (n : ℕ) where
  -- somebody arrives at o, which was empty
  abbrev is_arrival_at : ℕ → Bool
  is_arrival_at o = is_arrival_in_empty (code_at row o)

  -- o is a leaf beneath n that somebody arrives at
  abbrev is_arrival_beneath : ℕ → Bool
  is_arrival_beneath o = is_leaf o && (is_beneath o n && is_arrival_at o)

  -- o is a child of n, and somebody is beneath it or at it
  abbrev is_occupied_child : ℕ → Bool
  is_occupied_child o = is_child o n && is_occupied row o

  module _ (f : former_serves row n ≡ true) where
    -- besides the former key, the leaves with an arrival beneath n serve, and no other node
    by_former : (o : ℕ) → key_oriented_rule row n (Present o) ≡ is_arrival_beneath o
    by_former o = cond-true (former_serves row n) (is_arrival_beneath o) (is_occupied_child o) f

    -- a present key that serves is that of a leaf beneath n that somebody arrives at
    former_newcomer : (o : ℕ) → key_oriented_rule row n (Present o) ≡ true → IsLeafUnder is_arrival_at n o
    former_newcomer o e = leaf_under is_arrival_at n o (sym (by_former o) ∙ e)

    -- the arrivals' leaves are fewer than all: one leaf at least has somebody who stays
    former_few : IsInner n → length (filter (key_oriented_rule row n) (candidates n)) ≤ width n
    former_few i =
        let s = stands_is is_stay_code row n (former_is row n f).0 in
        let u = s.at in
        let stays = λ (e : key_oriented_rule row n (Present u) ≡ true).
        let arrives = arrives_only (code_at row u) (former_newcomer u e).passes in
        both_ways (is_stay_code (code_at row u)) (ap is_stay_code arrives) s.passes in
        let serves = λ (o : ℕ). key_oriented_rule row n (Present o) in
        let less = leaves_fit_but is_arrival_at n serves i former_newcomer u s.is_leaf s.under stays in
        omega (arith, candidates_kept (key_oriented_rule row n) n, ap bit f)

    -- each leaf beneath n that is occupied after the change knows an opener that serves n
    former_known : (u : ℕ) → IsInner n → IsLeaf u → IsBeneath u n → is_occupied_after (code_at row u) ≡ true
        → (c : Code) → code_at row u ≡ c → IsServed key_oriented_rule row n u
    former_known u i l b e Empty q = absurd (both_ways (is_occupied_after (code_at row u)) (ap is_occupied_after q) e)
    former_known u i l b e Departs q = absurd (both_ways (is_occupied_after (code_at row u)) (ap is_occupied_after q) e)
    former_known u i l b e Swaps q =
        let departs = stands_from is_departure_code row n u i.0 l (beneath_within u n b) (ap is_departure_code q) in
        absurd (both_ways (stands_within is_departure_code row n) (former_is row n f).1 departs)
    former_known u i l b e Stays q = (Former n, (former_in n, (f, (refl, q))))
    former_known u i l b e Arrives q =
        let under = under_from is_arrival_at n u i.0 (record { leaf = l; under = b; passes = ap is_arrival_in_empty q }) in
        (Present u, (present_in n u (omega arith) l.1, (by_former u ∙ under, inl refl)))

  module _ (f : former_serves row n ≡ false) where
    -- where the former key does not serve, exactly the occupied children do
    by_child : (o : ℕ) → key_oriented_rule row n (Present o) ≡ is_occupied_child o
    by_child o = cond-false (former_serves row n) (is_arrival_beneath o) (is_occupied_child o) f

    -- a node that serves is a child of n, and occupied
    occupied_child_is : (o : ℕ) → key_oriented_rule row n (Present o) ≡ true → (is_child o n ≡ true) × (is_occupied row o ≡ true)
    occupied_child_is o e = and_parts (is_child o n) (is_occupied row o) (sym (by_child o) ∙ e)

    -- the children that serve are no more than the leaves beneath n
    children_few : IsInner n → length (filter (key_oriented_rule row n) (candidates n)) ≤ width n
    children_few i =
        let two = kept_or (λ o. key_oriented_rule row n (Present o)) (λ o. eqb o (2 * n)) (λ o. eqb o (2 * n + 1)) tree_nodes
        (λ o _ e. or_cases (eqb o (2 * n)) (eqb o (2 * n + 1)) (occupied_child_is o e).0) in
        omega (
          arith,
          candidates_kept (key_oriented_rule row n) n,
          ap bit f,
          one_fits (2 * n) (omega arith) (omega arith),
          one_fits (2 * n + 1) (omega arith) (omega arith),
          children_fit n i,
        )

    -- by the child on the way from the leaf
    child_known : (u : ℕ) → IsInner n → IsBeneath u n → is_occupied row u ≡ true → IsServed key_oriented_rule row n u
    child_known u i (k, q) e =
        let o = ancestor k u in
        let w : IsWithin u o = (k, refl) in
        let l : 0 < o = omega arith in
        let child = and_from (is_child o n) (is_occupied row o) (half_child n o q) (occupied_up row u o l w e) in
        (Present o, (present_in n o l (omega arith), (by_child o ∙ child, known_present row n u o w (0, q))))

  -- whatever serves n may open it
  opens : (o : Opener) → In o (candidates n) → key_oriented_rule row n o ≡ true → MayOpen row n o
  opens (Former o) i e = (former_own n o i, former_is row n e)
  opens (Present o) i e = elim (cases_Bool (former_serves row n)) [
    | inl f ↦ let w = former_newcomer f o e in (occupied_leaf row o w.leaf ∙ ap is_occupied_after (arrives_only (code_at row o) w.passes), w.under)
    | inr f ↦ let p = occupied_child_is f o e in (p.1, (0, child_half n o p.0))
  ]

  -- each occupied leaf beneath n, if n is changed, knows an opener that serves n
  known : (u : ℕ) → is_changed row n ≡ true → IsLeaf u → IsBeneath u n → is_occupied row u ≡ true → IsServed key_oriented_rule row n u
  known u c l b e = elim (cases_Bool (former_serves row n)) [
    | inl f ↦ former_known f u (changed_inner row n c) l b (sym (occupied_leaf row u l) ∙ e) (code_at row u) refl
    | inr f ↦ child_known f u (changed_inner row n c) b e
  ]

  -- no more openers serve n than there are leaves beneath it
  few : IsInner n → length (filter (key_oriented_rule row n) (candidates n)) ≤ width n
  few i = elim (cases_Bool (former_serves row n)) [ inl f ↦ former_few f i | inr f ↦ children_few f i ]

-- whatever the row, this rule makes a lawful plan
pub key_oriented_lawful : (row : List Code) → IsLawfulPlan row (plan key_oriented_rule row)
key_oriented_lawful row = lawful key_oriented_rule row (record { opens = opens row; known = known row; few = few row })
