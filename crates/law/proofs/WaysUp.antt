-- The way up: at each level a player has the new keys of the nodes below it, and then that of the node.
use Rattle.std.proofs.Common.{◌≡◌, ℕ, zero, suc, ◌+◌, ◌<◌, ◌≤◌, true, false, eqb, List, [], ◌∷◌, length, map, get_or, set, Some, None, Option, Ok, refl, sym}
use Rattle.std.proofs.Common.{ap, ◌∙◌, subst, inl, inr, arith}
use Rattle.std.specs.List.{range_with_len}
use Rattle.std.proofs.lemmas.Bool.{cases_Bool, cases_eq, cases_lt, eqb-true, cond-true, cond-false}
use Rattle.std.proofs.lemmas.List.{length-set, get_or-set_same, get_or-set_other}
use Rattle.std.proofs.lemmas.List.FromFn.{fill_by_all, get_or-map-range_with_len}
use Rattle.tree.specs.declared.types.Code.TheVariants.{Stays}
use Rattle.tree.specs.declared.types.Opener.{Opener}
use Rattle.tree.specs.declared.types.Opener.TheVariants.{Present, Former}
use Rattle.tree.specs.Tree.{IsLeaf, ancestor}
use Rattle.tree.specs.Rows.{code_at, is_changed, is_occupied, changed_nodes}
use Rattle.tree.specs.Plans.{pair, IsKnownAt}
use Rattle.tree.proofs.Members.{In, map_in, some_who}
use Rattle.tree.proofs.Halvings.{beneath_greater, same_test}
use Rattle.tree.proofs.Standing.{changed_in, in_changed}
use Rattle.tree.proofs.LawfulPlans.{plan_served}
use Rattle.keys.specs.declared.NodeKey.{NodeKey}
use Rattle.keys.specs.Names.{unmade_key, keys_in}
use Rattle.file_rules.specs.Files.{WrappedKey}
use Rattle.file_rules.specs.Layout.{lists}
use Rattle.file_rules.specs.Sealing.{opener_node, opener_key}
use Rattle.file_rules.proofs.Wraps.{in_listed}
use Rattle.server_rules.specs.declared.state.State.{State}
use Rattle.server_rules.specs.States.{row}
use Rattle.server_rules.specs.Calls.{Publishing}
use Rattle.server_rules.specs.Publishings.{publishing_plan, publishing_file}
use Rattle.server_rules.proofs.Renewals.{epoch_of_key}
use Rattle.player_rules.specs.Rings.{path_entries}
use Rattle.player_rules.specs.Searches.{OpenableWrap, openable_wrap}
use Rattle.player_rules.specs.Climbs.{no_wrap, wrap_by_index, ring_with_key, ring_with_found, ring_after_level, verdict_and_then, ring_after_levels}
use Rattle.player_rules.specs.Climbs.{ring_after_file}
use Rattle.player_rules.specs.Laws.{Opens}
use Rattle.player_rules.proofs.Searches.{found_opens, none_opens}
use Rattle.player_rules.proofs.Rings.{lower, node_there, beneath_there}
use Rattle.law.proofs.Openings.{old_keys, new_keys, wrap_for, IsAcceptedPublishing, MayHave, wrap_opened}

-- what stands at a place of the list is in it
at_in : (ws : List WrappedKey) (i : ℕ) → i < length ws → In (get_or ws i no_wrap) ws
at_in [] i l = absurd (omega arith)
at_in (w ∷ ws) zero l = inl refl
at_in (w ∷ ws) (suc i) l = inr (at_in ws i (omega arith))

-- what is in the list stands at some place of it
in_at : (ws : List WrappedKey) (w : WrappedKey) → In w ws → (i : ℕ) × ((i < length ws) × (get_or ws i no_wrap ≡ w))
in_at [] w h = absurd h
in_at (x ∷ ws) w (inl e) = (0, (omega arith, sym e))
in_at (x ∷ ws) w (inr h) = let r = in_at ws w h in (suc r.0, (omega (arith, r.1.0), r.1.1))

-- a node is listed in the file exactly if it gets a new key
listed_is : (s : State) (n : ℕ) → lists (changed_nodes (row s)) n ≡ is_changed (row s) n
listed_is s n = same_test (lists (changed_nodes (row s)) n) (is_changed (row s) n)
    (λ e. let w = some_who (λ m. eqb m n) (changed_nodes (row s)) e in ap (is_changed (row s)) (sym (eqb-true w.0 n w.1.1)) ∙ in_changed (row s) w.0 w.1.0)
    (λ c. in_listed (changed_nodes (row s)) n (changed_in (row s) n c))

-- a player in the leaf v, and what it has for the nodes above the leaf before it reads the file
pub record HasBefore (s : State) (p : Publishing) (v : ℕ) (had : ℕ → NodeKey) : Type 0 where
  pub is_leaf : IsLeaf v
  pub seat : is_occupied (row s) v ≡ true
  pub known : (k : ℕ) → MayHave s p (ancestor k v) (had k)
  pub stayed : code_at (row s) v ≡ Stays → (k : ℕ) → had k ≡ old_keys s (ancestor k v)
  pub kept : (k : ℕ) → 1 ≤ k → k < 8 → is_changed (row s) (ancestor k v) ≡ false → had k ≡ new_keys s p (ancestor k v)

module _ (s : State) (p : Publishing) (a : IsAcceptedPublishing s p) (v : ℕ) (had : ℕ → NodeKey) (b : HasBefore s p v had) where
  -- the ring below the level k, and from it on
  record IsNewBelow (k : ℕ) (ring : List NodeKey) : Type 0 where
    size : length ring ≡ 8
    below : (j : ℕ) → j < k → j < 8 → keys_in ring j ≡ new_keys s p (ancestor j v)
    above : (j : ℕ) → k ≤ j → j < 8 → keys_in ring j ≡ had j

  module _ (k : ℕ) (l : 1 ≤ k) (h : k < 8) (ring : List NodeKey) (r : IsNewBelow k ring) where
    -- the node at that level
    abbrev node : ℕ
    node = ancestor k v

    -- each entry of the ring is what a player can have for its node
    known_at : (j : ℕ) → j < 8 → MayHave s p (ancestor j v) (keys_in ring j)
    known_at j m = elim (cases_lt j k) [
      | inl x ↦ inr (inl (r.below j x m))
      | inr g ↦ subst (MayHave s p (ancestor j v)) (sym (r.above j g m)) (b.known j)
    ]

    -- an opener that is known at the leaf is an entry
    opener_at : (o : Opener) → IsKnownAt (row s) node v o →
        (j : ℕ) × ((j < 8) × ((ancestor j v ≡ opener_node o) × (keys_in ring j ≡ opener_key (old_keys s) (new_keys s p) o)))
    opener_at (Present o) (inl e) = (0, (omega arith, (sym e, r.below 0 (omega arith) (omega arith) ∙ ap (new_keys s p) (sym e))))
    opener_at (Present o) (inr (x, (i, e))) =
        let greater = beneath_greater o node (node_there k v b.is_leaf h) x in
        let under : suc i < k = elim (cases_lt (suc i) k) [ inl y ↦ y | inr g ↦ absurd (omega (arith, greater, lower k (suc i) v g)) ] in
        (suc i, (omega arith, (e, r.below (suc i) under (omega arith) ∙ ap (new_keys s p) e)))
    opener_at (Former o) (e, st) = (k, (h, (sym e, r.above k (omega arith) h ∙ b.stayed st k ∙ ap (old_keys s) (sym e))))

    -- for a node with a new key, some wrap opens with some entry of the ring
    opens_some : is_changed (row s) node ≡ true → (i : ℕ) × ((j : ℕ) × Opens ring v node (publishing_file s p).wraps i j)
    opens_some c =
        let q = plan_served a.plan node v c b.is_leaf (beneath_there k v l) b.seat in
        let e = opener_at q.0 q.1.1 in
        let x = in_at (publishing_file s p).wraps (wrap_for s p (pair q.0 node)) (map_in (wrap_for s p) (publishing_plan s p) (pair q.0 node) q.1.0) in
        let opens : Opens ring v node (publishing_file s p).wraps x.0 e.0 = record {
          in_file = x.1.0;
          in_ring = e.1.0;
          content = ap (λ (w : WrappedKey). w.content) x.1.1;
          opener_node = e.1.1.0 ∙ sym (ap (λ (w : WrappedKey). w.opener.node) x.1.1);
          opener_epoch = ap epoch_of_key e.1.1.1 ∙ sym (ap (λ (w : WrappedKey). w.opener.epoch) x.1.1);
        } in
        (x.0, (e.0, opens))

    -- at a node with a new key, the player reads that key into its ring
    level_read : is_changed (row s) node ≡ true → ring_after_level p.wrap (publishing_file s p) v k ring ≡ Ok (set ring k (new_keys s p node))
    unfolding ring_after_level
    level_read c = cond-true _ _ _ (listed_is s node ∙ c) ∙ go (openable_wrap ring v node 0 (publishing_file s p).wraps) refl
      where
        go : (o : Option OpenableWrap) → openable_wrap ring v node 0 (publishing_file s p).wraps ≡ o →
            ring_with_found p.wrap (publishing_file s p) node k ring o ≡ Ok (set ring k (new_keys s p node))
        go None e = let x = opens_some c in absurd (none_opens ring v node (publishing_file s p).wraps e x.0 x.1.0 x.1.1)
        go (Some it) e =
            let x = found_opens ring v node (publishing_file s p).wraps it e in
            let known = subst (λ (m : ℕ). MayHave s p m (keys_in ring it.entry)) x.opener_node (known_at it.entry x.in_ring) in
            ap (ring_with_key (s.epoch + 1) k it.wrap ring)
            (wrap_opened s p a (wrap_by_index (publishing_file s p) it.wrap) (at_in (publishing_file s p).wraps it.wrap x.in_file)
            (keys_in ring it.entry) known x.opener_epoch)
            ∙ ap (λ m. Ok (set ring k (record { made = s.epoch + 1; key = (new_keys s p m).key }))) x.content
            ∙ ap (λ made. Ok (set ring k (record { made = made; key = (new_keys s p node).key }))) (sym (a.change.changed_new node c))

    -- a ring with the new key at this level, and else the same, is new below the next level
    next : (t : List NodeKey) → length t ≡ 8 → keys_in t k ≡ new_keys s p node → ((j : ℕ) → (j ≡ k → ⊥) → keys_in t j ≡ keys_in ring j) → IsNewBelow (k + 1) t
    next t size here there = record {
      size = size;
      below = λ j g m. elim (cases_eq j k) [
        | inl e ↦ ap (keys_in t) e ∙ here ∙ ap (λ i. new_keys s p (ancestor i v)) (sym e)
        | inr x ↦ there j x ∙ r.below j (omega arith) m
      ];
      above = λ j g m. there j (λ e. omega arith) ∙ r.above j (omega arith) m;
    }

    -- one level up succeeds, and leaves a ring that is new below the next level
    level : (t : List NodeKey) × ((ring_after_level p.wrap (publishing_file s p) v k ring ≡ Ok t) × IsNewBelow (k + 1) t)
    unfolding ring_after_level
    level = elim (cases_Bool (is_changed (row s) node)) [
      | inl c ↦
          let t = set ring k (new_keys s p node) in
          let here = get_or-set_same ring k (new_keys s p node) unmade_key (omega (arith, r.size)) in
          (t, (level_read c, next t (length-set ring k (new_keys s p node) ∙ r.size) here (λ j x. get_or-set_other ring k j (new_keys s p node) unmade_key x)))
      | inr z ↦ (ring, (cond-false _ _ _ (listed_is s node ∙ z), next ring r.size (r.above k (omega arith) h ∙ b.kept k l h z) (λ j x. refl)))
    ]

  -- from any level on, the way up ends with the new keys up to the root
  climb : (i k : ℕ) → 1 ≤ k → k + i ≡ 8 → (ring : List NodeKey) → IsNewBelow k ring →
      ring_after_levels p.wrap (publishing_file s p) v (range_with_len k i) ring ≡ Ok (path_entries (new_keys s p) v)
  unfolding path_entries
  climb zero k l e ring r = ap (λ x. Ok x) (fill_by_all (λ j. new_keys s p (ancestor j v)) ring 8 unmade_key r.size (λ j h. r.below j (omega arith) h))
  climb (suc i) k l e ring r =
      let t = level k l (omega arith) ring r in
      ap (λ x. verdict_and_then x (ring_after_levels p.wrap (publishing_file s p) v (range_with_len (k + 1) i))) t.1.0
      ∙ climb i (k + 1) (omega arith) (omega arith) t.0 t.1.1

  -- with the new key of its leaf, the player gets the new keys up to the root
  pub follow : ring_after_file p.wrap (publishing_file s p) v (new_keys s p v ∷ map had (range_with_len 1 7)) ≡ Ok (path_entries (new_keys s p) v)
  unfolding ring_after_file
  follow = climb 7 1 (omega arith) refl (new_keys s p v ∷ map had (range_with_len 1 7)) (record { size = refl; below = below; above = above })
    where
      below : (j : ℕ) → j < 1 → j < 8 → keys_in (new_keys s p v ∷ map had (range_with_len 1 7)) j ≡ new_keys s p (ancestor j v)
      below zero l h = refl
      below (suc j) l h = absurd (omega arith)

      above : (j : ℕ) → 1 ≤ j → j < 8 → keys_in (new_keys s p v ∷ map had (range_with_len 1 7)) j ≡ had j
      above zero l h = absurd (omega arith)
      above (suc j) l h = get_or-map-range_with_len had 1 7 j (suc j) unmade_key (omega arith) (omega arith)
