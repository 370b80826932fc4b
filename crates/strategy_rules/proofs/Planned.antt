-- What is in the plan of a rule, and three facts on a rule that make its plan lawful.
use Rattle.std.proofs.Common.{◌≡◌, ℕ, zero, suc, ◌+◌, ◌<◌, ◌≤◌, Bool, true, List, map, length, filter, sym, refl, ap, subst, inl, inr, arith}
use Rattle.std.specs.List.{flat_map}
use Rattle.std.proofs.lemmas.List.{length-append, length-map}
use Rattle.std.proofs.lemmas.Bool.{cases_Bool}
use Rattle.tree.specs.declared.types.Code.{Code}
use Rattle.tree.specs.declared.types.Opener.{Opener}
use Rattle.tree.specs.declared.types.Opener.TheVariants.{Present, Former}
use Rattle.tree.specs.declared.types.Pair.{Pair}
use Rattle.tree.specs.Tree.{IsLeaf, IsInner, IsWithin, IsBeneath, tree_nodes}
use Rattle.tree.specs.Rows.{is_changed, is_occupied, changed_nodes}
use Rattle.tree.specs.Plans.{pair, MayOpen, IsKnownAt, IsLawfulPlan}
use Rattle.tree.proofs.Members.{In, in_contains, contains_in, in_kept, kept_in, in_map, map_in, in_joined, joined_in}
use Rattle.tree.proofs.Halvings.{within_cases}
use Rattle.tree.proofs.Standing.{changed_in, in_changed, changed_nodes_up_to, changed_none, changed_yes, changed_no, changed_all}
use Rattle.strategy_rules.specs.Rules.{Rule, candidates, pairs_for, plan}
use Rattle.strategy_rules.proofs.Kept.{bit, kept_more, kept_map}
use Rattle.strategy_rules.proofs.Widths.{passing_count, width, width_sum, all_widths, node_in}

-- the former key of n is a candidate for n
pub former_in : (n : ℕ) → In (Former n) (candidates n)
unfolding candidates
former_in n = inl refl

-- the present key of each node is a candidate for n
pub present_in : (n o : ℕ) → 0 < o → o < 256 → In (Present o) (candidates n)
unfolding candidates
present_in n o l h = inr (map_in Present tree_nodes o (node_in o l h))

-- no former key but the content's own
pub former_own : (n o : ℕ) → In (Former o) (candidates n) → o ≡ n
unfolding candidates
former_own n o (inl e) = cc
former_own n o (inr h) = let p = (in_map Present tree_nodes (Former o) h).1.1 in absurd (let z : ◌≡◌ {A = ℕ} 0 1 = cc in omega arith)

-- the candidates kept are the former key, if it is kept, and the present keys kept
pub candidates_kept : (keep : Opener → Bool) (n : ℕ) → length (filter keep (candidates n)) ≡ bit (keep (Former n)) + passing_count (λ o. keep (Present o))
unfolding candidates
candidates_kept keep n = omega (arith, kept_more keep (Former n) (map Present tree_nodes), kept_map keep Present tree_nodes)

-- the rule has an opener of n that is known at u
abbrev pub IsServed : Rule → List Code → ℕ → ℕ → Type 0
IsServed rule row n u = (o : Opener) × (In o (candidates n) × ((rule row n o ≡ true) × IsKnownAt row n u o))

-- the present key of a node beneath n is known at each leaf within that node
pub known_present : (row : List Code) (n u o : ℕ) → IsWithin u o → IsBeneath o n → IsKnownAt row n u (Present o)
known_present row n u o w b = elim (within_cases u o w) [ inl e ↦ inl (sym e) | inr d ↦ inr (b, d) ]

module _ (rule : Rule) (row : List Code) where
  -- a pair that the rule asks for
  pub record IsPlanned (p : Pair) : Type 0 where
    pub change : is_changed row p.content ≡ true
    pub candidate : In p.opener (candidates p.content)
    pub serves : rule row p.content p.opener ≡ true

  -- each pair of the plan is one that the rule asks for
  pub in_plan : (p : Pair) → In p (plan rule row) → IsPlanned p
  unfolding plan pairs_for
  in_plan p h =
      let j = in_joined (pairs_for rule row) (changed_nodes row) p h in
      let n = j.0 in
      let m = in_map (λ o. pair o n) (filter (rule row n) (candidates n)) p j.1.1 in
      let k = in_kept (rule row n) (candidates n) m.0 m.1.0 in
      subst (λ (q : Pair). IsPlanned q) (sym m.1.1) (record { change = in_changed row n j.1.0; candidate = k.0; serves = k.1 })

  -- each pair that the rule asks for is in the plan
  pub plan_in : (n : ℕ) (o : Opener) → is_changed row n ≡ true → In o (candidates n) → rule row n o ≡ true → In (pair o n) (plan rule row)
  unfolding plan pairs_for
  plan_in n o c i e =
      joined_in (pairs_for rule row) (changed_nodes row) n (pair o n) (changed_in row n c)
      (map_in (λ o. pair o n) (filter (rule row n) (candidates n)) o (kept_in (rule row n) (candidates n) o i e))

  -- each content has no more pairs than there are leaves beneath it
  abbrev pub HasFewEach : Type 0
  HasFewEach = (n : ℕ) → IsInner n → length (filter (rule row n) (candidates n)) ≤ width n

  -- then the contents up to k have no more pairs than their numbers of leaves, added
  few_up_to : HasFewEach → (k : ℕ) → k < 128 → length (flat_map (pairs_for rule row) (changed_nodes_up_to row k)) ≤ width_sum k
  unfolding pairs_for
  few_up_to few zero h = omega (arith, ap (λ ns. length (flat_map (pairs_for rule row) ns)) (changed_none row))
  few_up_to few (suc k) h =
      let size = λ (ns : List ℕ). length (flat_map (pairs_for rule row) ns) in
      let rest = few_up_to few k (omega arith) in
      elim (cases_Bool (is_changed row (suc k))) [
        | inl y ↦
            omega (
              arith,
              ap size (changed_yes row k y),
              length-append (pairs_for rule row (suc k)) (flat_map (pairs_for rule row) (changed_nodes_up_to row k)),
              length-map (filter (rule row (suc k)) (candidates (suc k))) (λ o. pair o (suc k)),
              few (suc k) (omega arith, omega arith),
            )
        | inr z ↦ omega (arith, ap size (changed_no row k z))
      ]

  -- then the plan has at most 896 pairs
  pub plan_few : HasFewEach → length (plan rule row) ≤ 896
  unfolding plan
  plan_few few =
      subst (λ (ns : List ℕ). length (flat_map (pairs_for rule row) ns) ≤ 896) (changed_all row)
      (subst (λ (w : ℕ). length (flat_map (pairs_for rule row) (changed_nodes_up_to row 127)) ≤ w) all_widths
      (few_up_to few 127 (omega arith)))

  -- what a rule owes to a row, so that its plan is lawful: who is served may be, everybody is, by few
  pub record ServesLawfully : Type 0 where
    pub opens : (n : ℕ) (o : Opener) → In o (candidates n) → rule row n o ≡ true → MayOpen row n o
    pub known : (n u : ℕ) → is_changed row n ≡ true → IsLeaf u → IsBeneath u n → is_occupied row u ≡ true → IsServed rule row n u
    pub few : HasFewEach

  -- a rule that pays what it owes makes a lawful plan
  pub lawful : ServesLawfully → IsLawfulPlan row (plan rule row)
  lawful s = record {
    contents = λ p h. (in_plan p (contains_in (plan rule row) p h)).change;
    openers = λ p h. let q = in_plan p (contains_in (plan rule row) p h) in s.opens p.content p.opener q.candidate q.serves;
    served = λ n u c l b e.
        let k = s.known n u c l b e in
        (k.0, (in_contains (plan rule row) (pair k.0 n) (plan_in n k.0 c k.1.0 k.1.1.0), k.1.1.1));
    few = plan_few s.few;
  }
