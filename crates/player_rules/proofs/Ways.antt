-- The way up goes by the rule: level by level, to the root or to the node where it stops.
use Rattle.std.proofs.Common.{◌≡◌, ℕ, zero, suc, ◌+◌, ◌<◌, ◌≤◌, ◌↔◌, List, [], ◌∷◌, ◌++◌, length, take, drop, get_or, set, Contains, true, Some, None, Option}
use Rattle.std.proofs.Common.{Ok, Err}
use Rattle.std.proofs.Common.{refl, sym, ap, ◌∙◌, ap₂, subst, inl, inr, arith}
use Rattle.std.proofs.lemmas.Option.{none-some, same_Some}
use Rattle.std.specs.List.{range_with_len}
use Rattle.std.proofs.lemmas.Bool.{cases_Bool, cases_eq, cases_lt, both_ways, cond-true, cond-false}
use Rattle.std.proofs.lemmas.List.{length-set, get_or-set_same, get_or-set_other, get_or-drop, take-set-le, drop-set-lt, drop-drop, take-append-drop, take_all}
use lib.Seq.{take-suc}
use Rattle.refusal.specs.Refusals.{Refusal, Verdict, refusal_with}
use Rattle.tree.specs.Tree.{ancestor}
use Rattle.tree.proofs.Members.{in_contains, contains_in}
use Rattle.keys.specs.declared.NodeKey.{NodeKey}
use Rattle.keys.specs.Names.{unmade_key, keys_in}
use Rattle.file_rules.specs.Files.{Rekey}
use Rattle.file_rules.specs.Layout.{lists}
use Rattle.file_rules.proofs.Wraps.{in_listed}
use Rattle.file_rules.proofs.Accepted.{listed_in}
use Rattle.wrap.specs.Meaning.{WrapMeaning}
use Rattle.player_rules.specs.Searches.{OpenableWrap, openable_wrap}
use Rattle.player_rules.specs.Climbs.{wrap_content, wrap_by_index, ring_with_key, ring_with_found, ring_after_level, verdict_and_then, ring_after_levels}
use Rattle.player_rules.specs.Climbs.{ring_after_file}
use Rattle.player_rules.specs.Ways.{ring_so_far, IsRenewed, IsRingAtLevel, StopsWith, Stops}

-- the test of a listed node, as the rule asks it
contained : (nodes : List ℕ) (n : ℕ) → lists nodes n ≡ true → Contains nodes n
contained nodes n e = in_contains nodes n (listed_in nodes n e)

-- a node that is listed passes the test
lists_contained : (nodes : List ℕ) (n : ℕ) → Contains nodes n → lists nodes n ≡ true
lists_contained nodes n c = in_listed nodes n (contains_in nodes n c)

module _ (w : WrapMeaning) (f : Rekey) (leaf : ℕ) (old : List NodeKey) (eight : length old ≡ 8) where
  -- what a verdict says of the way up as far as the node k halvings up
  abbrev Goes : ℕ → Verdict (List NodeKey) → Type 0
  Goes k (Ok new) = IsRingAtLevel w f leaf old k new
  Goes k (Err r) = Stops w f leaf old r

  -- why the way up stops at the node n
  abbrev StopsAt : ℕ → List NodeKey → Refusal → Type 0
  StopsAt = StopsWith w f leaf

  -- what the wrap that is found opens to
  abbrev found_content : List NodeKey → OpenableWrap → Option (List ℕ)
  found_content ring it = wrap_content w f.epoch (keys_in ring it.entry).key (wrap_by_index f it.wrap)

  -- before the first level above the leaf, the ring is the old one
  begin : IsRingAtLevel w f leaf old 1 old
  begin = record {
    size = refl;
    rest_stays = refl;
    leaf_stays = refl;
    unlisted_stays = λ j a b n. refl;
    listed_renewed = λ j a b i. absurd (omega arith);
  }

  module _ (k : ℕ) (l : 1 ≤ k) (h : k < 8) (ring : List NodeKey) (u : IsRingAtLevel w f leaf old k ring) where
    -- the node at that level
    abbrev node : ℕ
    node = ancestor k leaf

    -- the ring is the one updated so far
    is_so_far : ring ≡ ring_so_far k ring old
    is_so_far = sym (take-append-drop k ring) ∙ ap (λ r. take k ring ++ r) u.rest_stays

    -- the entry of that level is still the old one
    entry_old : keys_in ring k ≡ keys_in old k
    entry_old =
        let here : k + 0 ≡ k = omega arith in
        ap (keys_in ring) (sym here)
        ∙ sym (get_or-drop k ring 0 unmade_key) ∙ ap (λ r. get_or r 0 unmade_key) u.rest_stays ∙ get_or-drop k old 0 unmade_key ∙ ap (keys_in old) here

    -- the entries above that level are still the old ones
    rest_old : drop (k + 1) ring ≡ drop (k + 1) old
    rest_old = sym (drop-drop 1 k ring) ∙ ap (drop 1) u.rest_stays ∙ drop-drop 1 k old

    -- a node that is not listed leaves the ring as it is, by the rule
    passed_over : (Contains f.nodes node → ⊥) → IsRingAtLevel w f leaf old (k + 1) ring
    passed_over un = record {
      size = u.size;
      rest_stays = rest_old;
      leaf_stays = u.leaf_stays;
      unlisted_stays = λ j a b n. elim (cases_eq j k) [
        | inl e ↦ ap (keys_in ring) e ∙ entry_old ∙ ap (keys_in old) (sym e)
        | inr x ↦ u.unlisted_stays j a (omega arith) n
      ];
      listed_renewed = λ j a b i. elim (cases_eq j k) [
        | inl e ↦ absurd (un (subst (λ (m : ℕ). Contains f.nodes (ancestor m leaf)) e i))
        | inr x ↦ u.listed_renewed j a (omega arith) i
      ];
    }

    -- a listed node gets its new entry, by the rule
    renewed : Contains f.nodes node → (entry : NodeKey) → IsRenewed w f leaf k ring entry → IsRingAtLevel w f leaf old (k + 1) (set ring k entry)
    renewed is entry by =
        let here : keys_in (set ring k entry) k ≡ entry = get_or-set_same ring k entry unmade_key (omega (arith, u.size, eight)) in
        let there : (j : ℕ) → j < k → keys_in (set ring k entry) j ≡ keys_in ring j = λ j b. get_or-set_other ring k j entry unmade_key (λ e. omega arith) in
        let before : (j : ℕ) → j ≤ k → ring_so_far j ring old ≡ ring_so_far j (set ring k entry) old =
        λ j b. ap (λ t. t ++ drop j old) (sym (take-set-le j ring k entry b)) in
        record {
          size = length-set ring k entry ∙ u.size;
          rest_stays = drop-set-lt (k + 1) ring k entry (omega arith) ∙ rest_old;
          leaf_stays = there 0 (omega arith) ∙ u.leaf_stays;
          unlisted_stays = λ j a b n. elim (cases_eq j k) [
            | inl e ↦ absurd (n (subst (λ (m : ℕ). Contains f.nodes (ancestor m leaf)) (sym e) is))
            | inr x ↦ there j (omega arith) ∙ u.unlisted_stays j a (omega arith) n
          ];
          listed_renewed = λ j a b i. elim (cases_eq j k) [
            | inl e ↦ subst (λ (m : ℕ). IsRenewed w f leaf m (ring_so_far m (set ring k entry) old) (keys_in (set ring k entry) m)) (sym e)
                (subst (IsRenewed w f leaf k (ring_so_far k (set ring k entry) old)) (sym here)
                (subst (λ r. IsRenewed w f leaf k r entry) (is_so_far ∙ before k (omega arith)) by))
            | inr x ↦ subst (IsRenewed w f leaf j (ring_so_far j (set ring k entry) old)) (sym (there j (omega arith)))
                (subst (λ r. IsRenewed w f leaf j r (keys_in ring j)) (before j (omega arith)) (u.listed_renewed j a (omega arith) i))
          ];
        }

    -- a listed node, by what the search and the opening give
    level_listed : Contains f.nodes node → Goes (k + 1) (ring_with_found w f node k ring (openable_wrap ring leaf node 0 f.wraps))
    level_listed is = search_gave (openable_wrap ring leaf node 0 f.wraps) refl
      where
        stops : (r : Refusal) → StopsAt node ring r → Stops w f leaf old r
        stops r why = record { level = k; on_the_way = (l, h); is_listed = is; ring = ring; until_then = u; why = why }

        opening_gave : (it : OpenableWrap) → openable_wrap ring leaf node 0 f.wraps ≡ Some it →
            (o : Option (List ℕ)) → found_content ring it ≡ o → Goes (k + 1) (ring_with_key f.epoch k it.wrap ring o)
        opening_gave it e (Some key) p = renewed is (record { made = f.epoch; key = key }) (record { it = it; is_first = e; content = p; made = refl })
        opening_gave it e None p = stops (refusal_with 18 (it.wrap ∷ f.epoch ∷ [])) (inr (record { it = it; is_first = e; unopened = p; is_refusal = refl }))

        search_gave : (o : Option OpenableWrap) → openable_wrap ring leaf node 0 f.wraps ≡ o → Goes (k + 1) (ring_with_found w f node k ring o)
        search_gave (Some it) e = opening_gave it e (found_content ring it) refl
        search_gave None e = stops (refusal_with 19 (node ∷ [])) (inl (e, refl))

    -- one level goes by the rule
    level_goes : Goes (k + 1) (ring_after_level w f leaf k ring)
    unfolding ring_after_level
    level_goes = elim (cases_Bool (lists f.nodes node)) [
      | inl e ↦ subst (Goes (k + 1)) (sym (cond-true _ _ _ e)) (level_listed (contained f.nodes node e))
      | inr e ↦ subst (Goes (k + 1)) (sym (cond-false _ _ _ e)) (passed_over (λ i. both_ways (lists f.nodes node) e (lists_contained f.nodes node i)))
    ]

  -- all levels from one on go by the rule
  climb_goes : (i k : ℕ) → 1 ≤ k → k + i ≡ 8 → (ring : List NodeKey) → IsRingAtLevel w f leaf old k ring →
      Goes 8 (ring_after_levels w f leaf (range_with_len k i) ring)
  climb_goes zero k l e ring u = subst (λ (m : ℕ). IsRingAtLevel w f leaf old m ring) (omega arith) u
  climb_goes (suc i) k l e ring u =
      on (ring_after_level w f leaf k ring) (level_goes k l (omega arith) ring u) (λ t. climb_goes i (k + 1) (omega arith) (omega arith) t)
    where
      later : List NodeKey → Verdict (List NodeKey)
      later = ring_after_levels w f leaf (range_with_len (k + 1) i)

      on : (v : Verdict (List NodeKey)) → Goes (k + 1) v →
          ((t : List NodeKey) → IsRingAtLevel w f leaf old (k + 1) t → Goes 8 (later t)) → Goes 8 (verdict_and_then v later)
      on (Ok t) g more = more t g
      on (Err r) g more = g

  -- the whole way up goes by the rule
  goes : Goes 8 (ring_after_file w f leaf old)
  unfolding ring_after_file
  goes = climb_goes 7 1 (omega arith) refl old begin

  -- The rule leaves no choice.

  -- there is only one entry with which a node can be renewed
  one_entry : (k : ℕ) (ring : List NodeKey) (x y : NodeKey) → IsRenewed w f leaf k ring x → IsRenewed w f leaf k ring y → x ≡ y
  one_entry k ring x y a b =
      let it : a.it ≡ b.it = same_Some _ _ (sym a.is_first ∙ b.is_first) in
      let key : x.key ≡ y.key = same_Some _ _ (sym a.content ∙ ap (found_content ring) it ∙ b.content) in
      let made : x.made ≡ y.made = a.made ∙ sym b.made in
      λ i. record { made = made i; key = key i }

  -- two ways up have the same entries as far as both go
  module _ (i j : ℕ) (a b : List NodeKey) (u : IsRingAtLevel w f leaf old i a) (v : IsRingAtLevel w f leaf old j b) where
    -- two rings that are the same below a level are the same updated so far
    same_so_far : (m : ℕ) → take m a ≡ take m b → ring_so_far m a old ≡ ring_so_far m b old
    same_so_far m t = ap (λ r. r ++ drop m old) t

    -- where both are the same below a level, both have the same entry there
    entry_same : (m : ℕ) → m < i → m < j → take m a ≡ take m b → keys_in a m ≡ keys_in b m
    entry_same zero p q t = u.leaf_stays ∙ sym v.leaf_stays
    entry_same (suc m) p q t = elim (cases_Bool (lists f.nodes (ancestor (suc m) leaf))) [
      | inl e ↦
          let is = contained f.nodes (ancestor (suc m) leaf) e in
          one_entry (suc m) (ring_so_far (suc m) b old) (keys_in a (suc m)) (keys_in b (suc m))
          (subst (λ r. IsRenewed w f leaf (suc m) r (keys_in a (suc m))) (same_so_far (suc m) t) (u.listed_renewed (suc m) (omega arith) p is))
          (v.listed_renewed (suc m) (omega arith) q is)
      | inr e ↦
          let un : Contains f.nodes (ancestor (suc m) leaf) → ⊥ =
          λ x. both_ways (lists f.nodes (ancestor (suc m) leaf)) e (lists_contained f.nodes (ancestor (suc m) leaf) x) in
          u.unlisted_stays (suc m) (omega arith) p un ∙ sym (v.unlisted_stays (suc m) (omega arith) q un)
    ]

    -- both have the same entries below each level that both reach
    entries_same : (m : ℕ) → m ≤ i → m ≤ j → m ≤ 8 → take m a ≡ take m b
    entries_same zero p q r = refl
    entries_same (suc m) p q r =
        let t = entries_same m (omega arith) (omega arith) (omega arith) in
        take-suc a m unmade_key (omega (arith, u.size, eight))
        ∙ ap₂ (λ x e. x ++ (e ∷ [])) t (entry_same m (omega arith) (omega arith) t)
        ∙ sym (take-suc b m unmade_key (omega (arith, v.size, eight)))

  -- there is only one ring at the end of the way up
  one_way : (a b : List NodeKey) → IsRingAtLevel w f leaf old 8 a → IsRingAtLevel w f leaf old 8 b → a ≡ b
  one_way a b u v =
      sym (take_all 8 a (omega (arith, u.size, eight)))
      ∙ entries_same 8 8 a b u v 8 (omega arith) (omega arith) (omega arith) ∙ take_all 8 b (omega (arith, v.size, eight))

  -- where a node's entry is renewed, the way up does not stop
  goes_on : (k : ℕ) (ring : List NodeKey) (entry : NodeKey) (r : Refusal) → IsRenewed w f leaf k ring entry → StopsAt (ancestor k leaf) ring r → ⊥
  goes_on k ring entry r a (inl s) = none-some _ (sym s.0 ∙ a.is_first)
  goes_on k ring entry r a (inr d) =
      let it : a.it ≡ d.it = same_Some _ _ (sym a.is_first ∙ d.is_first) in
      none-some _ (sym d.unopened ∙ sym (ap (found_content ring) it) ∙ a.content)

  -- there is only one refusal with which the way up can stop at a node
  one_why : (n : ℕ) (ring : List NodeKey) (r q : Refusal) → StopsAt n ring r → StopsAt n ring q → r ≡ q
  one_why n ring r q (inl a) (inl b) = a.1 ∙ sym b.1
  one_why n ring r q (inl a) (inr b) = absurd (none-some _ (sym a.0 ∙ b.is_first))
  one_why n ring r q (inr a) (inl b) = absurd (none-some _ (sym b.0 ∙ a.is_first))
  one_why n ring r q (inr a) (inr b) =
      let it : a.it ≡ b.it = same_Some _ _ (sym a.is_first ∙ b.is_first) in
      a.is_refusal ∙ ap (λ (i : OpenableWrap). refusal_with 18 (i.wrap ∷ f.epoch ∷ [])) it ∙ sym b.is_refusal

  -- a way up that goes further than a stop
  not_beyond : (k : ℕ) (new : List NodeKey) (r : Refusal) → IsRingAtLevel w f leaf old k new → (s : Stops w f leaf old r) → s.level < k → ⊥
  not_beyond k new r u s l =
      let same = entries_same k s.level new s.ring u s.until_then s.level (omega arith) (omega arith) (omega (arith, s.on_the_way.1)) in
      let here = same_so_far k s.level new s.ring u s.until_then s.level same ∙ sym (is_so_far s.level s.on_the_way.0 s.on_the_way.1 s.ring s.until_then) in
      goes_on s.level s.ring (keys_in new s.level) r
      (subst (λ x. IsRenewed w f leaf s.level x (keys_in new s.level)) here (u.listed_renewed s.level s.on_the_way.0 l s.is_listed)) s.why

  -- there is only one refusal with which the way up can stop
  one_stop : (r q : Refusal) → Stops w f leaf old r → Stops w f leaf old q → r ≡ q
  one_stop r q s t = elim (cases_lt s.level t.level) [
    | inl l ↦ absurd (not_beyond t.level t.ring r t.until_then s l)
    | inr g ↦ elim (cases_lt t.level s.level) [
      | inl l ↦ absurd (not_beyond s.level s.ring q s.until_then t l)
      | inr h ↦
          let level : t.level ≡ s.level = omega arith in
          let same = entries_same s.level t.level s.ring t.ring s.until_then t.until_then t.level g (omega arith) (omega (arith, t.on_the_way.1)) in
          let ring : t.ring ≡ s.ring =
          is_so_far t.level t.on_the_way.0 t.on_the_way.1 t.ring t.until_then
          ∙ sym (same_so_far s.level t.level s.ring t.ring s.until_then t.until_then t.level same)
          ∙ ap (λ k. ring_so_far k s.ring old) level
          ∙ sym (is_so_far s.level s.on_the_way.0 s.on_the_way.1 s.ring s.until_then) in
          one_why (ancestor s.level leaf) s.ring r q s.why
          (subst (λ x. StopsAt (ancestor s.level leaf) x q) ring (subst (λ k. StopsAt (ancestor k leaf) t.ring q) level t.why))
    ]
  ]

  -- the way up ends with a ring exactly if the rule gives that ring
  pub way_up : (new : List NodeKey) → (ring_after_file w f leaf old ≡ Ok new) ↔ IsRingAtLevel w f leaf old 8 new
  way_up new = (λ e. subst (Goes 8) e goes, λ u. back u (ring_after_file w f leaf old) goes)
    where
      back : IsRingAtLevel w f leaf old 8 new → (v : Verdict (List NodeKey)) → Goes 8 v → v ≡ Ok new
      back u (Ok t) g = ap Ok (one_way t new g u)
      back u (Err r) s = absurd (not_beyond 8 new r u s s.on_the_way.1)

  -- the way up is refused exactly where the rule stops it
  pub way_stops : (r : Refusal) → (ring_after_file w f leaf old ≡ Err r) ↔ Stops w f leaf old r
  way_stops r = (λ e. subst (Goes 8) e goes, λ s. back s (ring_after_file w f leaf old) goes)
    where
      back : Stops w f leaf old r → (v : Verdict (List NodeKey)) → Goes 8 v → v ≡ Err r
      back s (Ok t) u = absurd (not_beyond 8 t r u s s.on_the_way.1)
      back s (Err q) t = ap Err (one_stop q r t s)
