-- What is left of a plan while its pairs are laid.
use Rattle.std.proofs.Common.{◌≡◌, ℕ, zero, suc, ◌+◌, ◌-◌, ◌<◌, ◌≤◌, true, false, cond, List, [], ◌∷◌, ◌++◌, map, length, take, drop, filter, sym, refl, ap}
use Rattle.std.proofs.Common.{◌∙◌, arith}
use Rattle.std.specs.List.{range_with_len, flat_map}
use Rattle.std.proofs.lemmas.List.{append_assoc, length-map, take-append-drop, take_more_set, drop-set-lt, length-set}
use Rattle.std.proofs.lemmas.List.Sums.{length-filter, count_by-le-length}
use Rattle.tree.specs.declared.types.Code.{Code}
use Rattle.tree.specs.declared.types.Opener.{Opener}
use Rattle.tree.specs.declared.types.Opener.TheVariants.{Present, Former}
use Rattle.tree.specs.declared.types.Pair.{Pair}
use Rattle.tree.specs.Tree.{tree_nodes}
use Rattle.tree.specs.Rows.{is_changed}
use Rattle.tree.specs.Plans.{pair}
use Rattle.tree.proofs.Standing.{changed_nodes_up_to, changed_none, changed_yes, changed_no, changed_all}
use Rattle.strategy_rules.specs.Rules.{Rule, candidates, pairs_for, plan}
use Rattle.strategies.specs.declared.writer.PairList.{PairList}
use Rattle.strategies.specs.Writing.{with_pair, with_pairs}
use Rattle.strategy_rules.specs.Rules.{pairs_under}

-- laying two lists of pairs one after the other is laying their joined list
with_append : (list : PairList) (xs ys : List Pair) → with_pairs list (xs ++ ys) ≡ with_pairs (with_pairs list xs) ys
with_append list [] ys = refl
with_append list (x ∷ xs) ys = with_append (with_pair list x) xs ys

-- pairs laid in two parts are laid as if all at once
with_split : (list : PairList) (xs ys all : List Pair) → all ≡ xs ++ ys → with_pairs (with_pairs list xs) ys ≡ with_pairs list all
with_split list xs ys all e = sym (with_append list xs ys) ∙ ap (with_pairs list) (sym e)

-- each pair is counted, also without room
pub count_with : (list : PairList) (xs : List Pair) → (with_pairs list xs).count ≡ list.count + length xs
count_with list [] = omega arith
count_with list (x ∷ xs) = omega (arith, count_with (with_pair list x) xs)

-- laying keeps the room that was lent
pub room_with : (list : PairList) (xs : List Pair) → (with_pairs list xs).room.ghost_name ≡ list.room.ghost_name
room_with list [] = refl
room_with list (x ∷ xs) = room_with (with_pair list x) xs

-- pairs that fit stand behind those that were laid before
with_fits : (list : PairList) (xs : List Pair) → list.count + length xs ≤ length list.room.now
    → (with_pairs list xs).room.now ≡ take list.count list.room.now ++ (xs ++ drop (list.count + length xs) list.room.now)
with_fits list [] h =
    let e : list.count ≡ list.count + 0 = omega arith in
    sym (take-append-drop list.count list.room.now) ∙ ap (λ i. take list.count list.room.now ++ drop i list.room.now) e
with_fits list (x ∷ xs) h =
    let at = list.count in
    let out = list.room.now in
    let next = with_pair list x in
    let e : at + 1 + length xs ≡ at + suc (length xs) = omega arith in
    with_fits next xs (omega (arith, length-set out at x))
    ∙ ap (λ l. l ++ (xs ++ drop (at + 1 + length xs) next.room.now)) (take_more_set out at x (omega arith))
    ∙ append_assoc (take at out) (x ∷ []) (xs ++ drop (at + 1 + length xs) next.room.now)
    ∙ ap (λ l. take at out ++ (x ∷ (xs ++ l))) (drop-set-lt (at + 1 + length xs) out at x (omega arith) ∙ ap (λ i. drop i out) e)

-- the same with nothing laid before
pub with_whole : (list : PairList) (xs : List Pair) → list.count ≡ 0 → length xs ≤ length list.room.now
    → (with_pairs list xs).room.now ≡ xs ++ drop (length xs) list.room.now
with_whole list xs e h =
    let out = list.room.now in
    let long : list.count + length xs ≡ length xs = omega arith in
    with_fits list xs (omega arith) ∙ ap (λ i. take i out ++ (xs ++ drop (list.count + length xs) out)) e ∙ ap (λ i. xs ++ drop i out) long

-- lists with the same count and the same room have the same room after the same pairs
pub with_same : (a b : PairList) (xs : List Pair) → a.count ≡ b.count → a.room.now ≡ b.room.now
    → (with_pairs a xs).room.now ≡ (with_pairs b xs).room.now
with_same a b [] c w = w
with_same a b (x ∷ xs) c w = with_same (with_pair a x) (with_pair b x) xs (omega arith) (cc)

module _ (rule : Rule) (row : List Code) where
  -- the pairs of one opener, then those of the others
  under_more : (n : ℕ) (o : Opener) (os : List Opener) → pairs_under rule row n (o ∷ os) ≡ pairs_under rule row n (o ∷ []) ++ pairs_under rule row n os
  under_more n o os =
      let under = map (λ p. pair p n) in
      let rest = filter (rule row n) os in
      elim (rule row n o) as (λ b. under (cond b (o ∷ rest) rest) ≡ under (cond b (o ∷ []) []) ++ under rest) [ true ↦ refl | false ↦ refl ]

  -- the pairs with the content n under the present keys from o on
  unfoldable pub present_pairs_from : ℕ → ℕ → List Pair
  present_pairs_from n o = pairs_under rule row n (map Present (range_with_len o (256 - o)))

  -- the former key's pair and then those of all present keys are all the pairs of n
  pub with_former : (list : PairList) (n : ℕ)
      → with_pairs (with_pairs list (pairs_under rule row n (Former n ∷ []))) (present_pairs_from n 1) ≡ with_pairs list (pairs_for rule row n)
  unfolding pairs_for candidates tree_nodes present_pairs_from
  with_former list n =
      with_split list (pairs_under rule row n (Former n ∷ [])) (present_pairs_from n 1) (pairs_for rule row n)
      (under_more n (Former n) (map Present tree_nodes))

  -- the pairs from o on are that of o, if it serves, and those from the next node on
  presents_more : (n o : ℕ) → o ≤ 255 → present_pairs_from n o ≡ pairs_under rule row n (Present o ∷ []) ++ present_pairs_from n (o + 1)
  unfolding present_pairs_from
  presents_more n o h =
      let e : 256 - o ≡ suc (256 - (o + 1)) = omega arith in
      rw e (under_more n (Present o) (map Present (range_with_len (o + 1) (256 - (o + 1)))))

  -- after the pair of o, if it serves, those from the next node on are left
  pub with_present : (list : PairList) (n o : ℕ) → o ≤ 255
      → with_pairs (with_pairs list (pairs_under rule row n (Present o ∷ []))) (present_pairs_from n (o + 1)) ≡ with_pairs list (present_pairs_from n o)
  with_present list n o h =
      with_split list (pairs_under rule row n (Present o ∷ [])) (present_pairs_from n (o + 1)) (present_pairs_from n o) (presents_more n o h)

  -- at the last node no pair but its own is left
  pub with_last : (list : PairList) (n o : ℕ) → o ≤ 255 → 255 ≤ o
      → with_pairs list (present_pairs_from n o) ≡ with_pairs list (pairs_under rule row n (Present o ∷ []))
  unfolding present_pairs_from
  with_last list n o h l = let e : 256 - (o + 1) ≡ 0 = omega arith in sym (with_present list n o h) ∙ rw e refl

  -- the pairs with a content of at most k
  unfoldable pub plan_up_to : ℕ → List Pair
  plan_up_to k = flat_map (pairs_for rule row) (changed_nodes_up_to row k)

  -- up to 127, they are the whole plan
  pub with_plan : (list : PairList) → with_pairs list (plan_up_to 127) ≡ with_pairs list (plan rule row)
  unfolding plan_up_to plan
  with_plan list = ap (λ ns. with_pairs list (flat_map (pairs_for rule row) ns)) (changed_all row)

  -- the pairs up to a changed node are its own, and then those of the smaller contents
  plan_more : (n : ℕ) → 0 < n → true ≡ is_changed row n → plan_up_to n ≡ pairs_for rule row n ++ plan_up_to (n - 1)
  unfolding plan_up_to
  plan_more zero h e = absurd (omega arith)
  plan_more (suc k) h e =
      let less : suc k - 1 ≡ k = omega arith in
      rw less (ap (flat_map (pairs_for rule row)) (changed_yes row k (sym e)))

  -- after the pairs of a changed node, those of the smaller contents are left
  pub with_changed : (list : PairList) (n : ℕ) → 0 < n → true ≡ is_changed row n
      → with_pairs (with_pairs list (pairs_for rule row n)) (plan_up_to (n - 1)) ≡ with_pairs list (plan_up_to n)
  with_changed list n h e = with_split list (pairs_for rule row n) (plan_up_to (n - 1)) (plan_up_to n) (plan_more n h e)

  -- an unchanged node has no pairs
  pub with_unchanged : (list : PairList) (n : ℕ) → 0 < n → false ≡ is_changed row n → with_pairs list (plan_up_to (n - 1)) ≡ with_pairs list (plan_up_to n)
  unfolding plan_up_to
  with_unchanged list zero h e = absurd (omega arith)
  with_unchanged list (suc k) h e =
      let less : suc k - 1 ≡ k = omega arith in
      rw less (ap (λ ns. with_pairs list (flat_map (pairs_for rule row) ns)) (sym (changed_no row k (sym e))))

  -- up to 0, nothing is left
  pub with_none : (list : PairList) (k : ℕ) → k ≡ 0 → with_pairs list (plan_up_to k) ≡ list
  unfolding plan_up_to
  with_none list k e = rw e (ap (λ ns. with_pairs list (flat_map (pairs_for rule row) ns)) (changed_none row))

  -- one pair at most for each candidate
  pub pairs_few : (n : ℕ) → length (pairs_for rule row n) ≤ 256
  unfolding pairs_for candidates tree_nodes
  pairs_few n =
      let served = filter (rule row n) (candidates n) in
      omega (
        arith,
        length-map served (λ o. pair o n),
        length-filter (rule row n) (candidates n),
        count_by-le-length (rule row n) (candidates n),
      )

-- for one content
pub ruleset contents = (with_former, with_present, with_last, count_with)

-- for the contents of a plan
pub ruleset plans = (with_plan, with_changed, with_unchanged, with_none, pairs_few, count_with)

-- for a plan in an empty list
pub ruleset laid_plan = (count_with, room_with, with_same, with_whole)
