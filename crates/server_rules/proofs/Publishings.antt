-- A publishing keeps a server sound.
use Rattle.std.proofs.Common.{◌≡◌, ℕ, ◌+◌, ◌-◌, ◌<◌, ◌≤◌, true, false, List, length, Some, None, sym, refl, ap, ◌∙◌, inl, inr, arith}
use Rattle.std.proofs.Math.ListN.{get_or-map}
use Rattle.std.proofs.lemmas.Bool.{cases_Bool, cases_lt, both_ways, false≢true, false_from_ne_true}
use Rattle.std.proofs.lemmas.List.{length-map, get_or_past}
use Rattle.std.proofs.lemmas.Option.{none-some}
use Rattle.byte_strings.specs.Strings.{IsBytes}
use Rattle.keys.specs.Names.{unmade_key, keys_in}
use Rattle.tree.specs.declared.types.Code.{Code}
use Rattle.tree.specs.declared.types.Code.TheVariants as codes
use Rattle.tree.specs.Tree.{IsLeaf, IsInner, IsBeneath}
use Rattle.tree.specs.Rows.{code_at, is_change_code, is_changed}
use Rattle.tree.proofs.Halvings.{halved_low, within_cases, beneath_within}
use Rattle.tree.proofs.Standing.{changed_inner, changed_up, changed_iff}
use Rattle.cradles.specs.declared.Cradle.{Cradle}
use Rattle.cradles.specs.declared.Cradle.TheVariants.{Empty, Stays, Arrives, Departs, Swaps}
use Rattle.cradles.specs.Cradles.{cradle_code, occupant, holder, after_change, IsCradle}
use Rattle.cradles.proofs.Notes.{carried_seated, carried_holder}
use Rattle.keys.specs.declared.limits.TheConstants.{LAST_EPOCH}
use Rattle.server_rules.specs.declared.state.State.{State}
use Rattle.server_rules.specs.States.{cradle, leaf_of, row, has_notes}
use Rattle.cradles.specs.Draws.{is_arrival_code, is_emptying_code, drawn_size}
use Rattle.server_rules.specs.Steps.{server_of_next_epoch}
use Rattle.server_rules.specs.Sound.{IsSoundServer}
use Rattle.server_rules.specs.Laws.{IsRenewal}
use Rattle.server_rules.proofs.Rows.{code_at_leaf, root_above, noted_root}
use Rattle.server_rules.proofs.Rows.{cradled_leaf}
use Rattle.server_rules.proofs.Renewals.{epoch_of_key, renewed_length, renewed_all, renewed_sized, renewal}

-- no key was made after the server's epoch
pub made_by_now : (s : State) (n : ℕ) → IsSoundServer s → 0 < n → (keys_in s.nodes n).made ≤ s.epoch
made_by_now s n sound o = elim (within_cases n 1 (root_above n o)) [
  | inl e ↦ omega (arith, ap (λ i. (keys_in s.nodes i).made) e, sound.root_epoch)
  | inr b ↦ omega (arith, sound.epochs_rise n 1 (omega arith) b, sound.root_epoch)
]

-- where nobody moves, nobody joins and no leaf is emptied
still : (k : Code) → is_change_code k ≡ false → (is_arrival_code k ≡ false) × (is_emptying_code k ≡ false)
still codes.Empty e = (refl, refl)
still codes.Stays e = (refl, refl)
still codes.Arrives e = absurd (false≢true (sym e))
still codes.Departs e = absurd (false≢true (sym e))
still codes.Swaps e = absurd (false≢true (sym e))

module _ (s : State) (material : List ℕ) (sound : IsSoundServer s) where
  -- the server after the publishing
  abbrev next_state : State
  next_state = server_of_next_epoch s material

  -- what the publishing does to the keys
  abbrev change : IsRenewal (s.epoch + 1) (row s) material (keys_in s.nodes) (keys_in next_state.nodes)
  change = renewal (row s) (s.epoch + 1) material s.nodes sound.node_count

  -- after the publishing there are as many nodes as before
  nodes_then : length next_state.nodes ≡ 256
  nodes_then = renewed_length (row s) (s.epoch + 1) material s.nodes ∙ sound.node_count

  -- a node that the change does not touch keeps its key
  kept : (n : ℕ) → is_changed (row s) n ≡ false → (IsLeaf n → is_change_code (code_at (row s) n) ≡ false) → keys_in next_state.nodes n ≡ keys_in s.nodes n
  kept n c f = change.others_kept n c (λ l. still (code_at (row s) n) (f l))

  -- the leaf of a cradle where nobody moves keeps its key
  leaf_kept : (c : ℕ) → IsCradle c →
      is_change_code (cradle_code (cradle s c)) ≡ false → keys_in next_state.nodes (leaf_of c) ≡ keys_in s.nodes (leaf_of c)
  leaf_kept c h e = kept (leaf_of c)
      (false_from_ne_true (is_changed (row s) (leaf_of c)) (λ y. omega (arith, changed_inner (row s) (leaf_of c) y)))
      (λ l. ap is_change_code (code_at_leaf s c h) ∙ e)

  -- after the publishing no key is newer than its epoch
  made_then : (n : ℕ) → 0 < n → (keys_in next_state.nodes n).made ≤ s.epoch + 1
  made_then n o =
      renewed_all (row s) (s.epoch + 1) material s.nodes (λ k. k.made ≤ s.epoch + 1) n (omega arith) (λ k. omega arith)
      (omega (arith, made_by_now s n sound o))

  -- beneath a node that is not changed nothing is
  kept_beneath : (m n : ℕ) → IsInner n → IsBeneath m n → is_changed (row s) n ≡ false → keys_in next_state.nodes m ≡ keys_in s.nodes m
  kept_beneath m n i b z = kept m
      (false_from_ne_true (is_changed (row s) m) (λ y. both_ways (is_changed (row s) n) z (changed_up (row s) m n i (beneath_within m n b) y)))
      (λ l. false_from_ne_true (is_change_code (code_at (row s) m)) (λ y.
      both_ways (is_changed (row s) n) z ((changed_iff (row s) n).1 (i, (m, (l, (b, y)))))))

  -- no node's key is older than that of a node beneath it
  rise : (m n : ℕ) → 0 < n → IsBeneath m n → (keys_in next_state.nodes m).made ≤ (keys_in next_state.nodes n).made
  rise m n o b = elim (cases_lt m 256) [
    | inl l ↦
        let i : IsInner n = (o, omega (arith, b.1, halved_low b.0 m)) in
        elim (cases_Bool (is_changed (row s) n)) [
          | inl y ↦ omega (arith, made_then m (omega (arith, b.1, halved_low b.0 m)), change.changed_new n y)
          | inr z ↦
              let low = kept_beneath m n i b z in
              let high = kept n z (λ f. absurd (omega (arith, f, i))) in
              omega (arith, sound.epochs_rise m n o b, ap epoch_of_key low, ap epoch_of_key high)
        ]
    | inr g ↦ omega (arith, ap epoch_of_key (get_or_past next_state.nodes m unmade_key (omega (arith, nodes_then))))
  ]

  -- each cradle has its notes carried out
  pub carried : (c : ℕ) → cradle next_state c ≡ after_change (cradle s c)
  carried c = get_or-map after_change s.cradles (c - 1) Empty

  -- the leaf of a cradle that is empty from then on has no key
  empty_leaf : (c : ℕ) → IsCradle c → (k : Cradle) → cradle s c ≡ k → occupant (after_change k) ≡ None → keys_in next_state.nodes (leaf_of c) ≡ unmade_key
  empty_leaf c h Empty e n = leaf_kept c h (ap (λ k. is_change_code (cradle_code k)) e) ∙ sound.empty_leaves c h (ap occupant e)
  empty_leaf c h (Stays x) e n = absurd (none-some x (sym n))
  empty_leaf c h (Arrives x) e n = absurd (none-some x (sym n))
  empty_leaf c h (Departs x) e n = change.emptied_none (leaf_of c) (cradled_leaf c h) (ap is_emptying_code (code_at_leaf s c h ∙ ap cradle_code e))
  empty_leaf c h (Swaps x y) e n = absurd (none-some y (sym n))

  -- the leaf of a cradle that is occupied from then on has a key
  seated_leaf : (c x : ℕ) → IsCradle c → (k : Cradle) → cradle s c ≡ k → occupant (after_change k) ≡ Some x → 1 ≤ (keys_in next_state.nodes (leaf_of c)).made
  seated_leaf c x h Empty e n = absurd (none-some x n)
  seated_leaf c x h (Stays y) e n =
      omega (arith, sound.seated_leaves c y h (ap occupant e), ap epoch_of_key (leaf_kept c h (ap (λ k. is_change_code (cradle_code k)) e)))
  seated_leaf c x h (Arrives y) e n =
      omega (arith, change.arrival_new (leaf_of c) (cradled_leaf c h) (ap is_arrival_code (code_at_leaf s c h ∙ ap cradle_code e)))
  seated_leaf c x h (Departs y) e n = absurd (none-some x n)
  seated_leaf c x h (Swaps y z) e n =
      omega (arith, change.arrival_new (leaf_of c) (cradled_leaf c h) (ap is_arrival_code (code_at_leaf s c h ∙ ap cradle_code e)))

  -- after a publishing of something noted the server is sound
  pub publish_sound : has_notes s ≡ true → s.epoch < LAST_EPOCH → IsBytes material → drawn_size (row s) ≤ length material → IsSoundServer next_state
  publish_sound some room b long = record {
    cradle_count = length-map s.cradles after_change ∙ sound.cradle_count;
    node_count = nodes_then;
    keys_sized = renewed_sized (row s) (s.epoch + 1) material s.nodes b long sound.keys_sized;
    epoch_range = omega arith;
    seats_apart = λ c d x hc hd p q. sound.holders_apart c d x hc hd (seat c ∙ p) (seat d ∙ q);
    holders_apart = λ c d x hc hd p q. sound.holders_apart c d x hc hd (hold c ∙ p) (hold d ∙ q);
    root_epoch = change.changed_new 1 (noted_root s sound some);
    epochs_rise = rise;
    empty_leaves = λ c h n. empty_leaf c h (cradle s c) refl (sym (ap occupant (carried c)) ∙ n);
    seated_leaves = λ c x h n. seated_leaf c x h (cradle s c) refl (sym (ap occupant (carried c)) ∙ n);
  }
    where
      seat : (c : ℕ) → holder (cradle s c) ≡ occupant (cradle next_state c)
      seat c = sym (ap occupant (carried c) ∙ carried_seated (cradle s c))

      hold : (c : ℕ) → holder (cradle s c) ≡ holder (cradle next_state c)
      hold c = sym (ap holder (carried c) ∙ carried_holder (cradle s c))
