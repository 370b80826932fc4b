-- A new server is sound, and every call keeps a server sound.
use Rattle.std.proofs.Common.{◌≡◌, ℕ, zero, suc, ◌+◌, ◌-◌, ◌≤◌, List, map, length, get_or, set, replicate, Some, None, Option, sym, refl, ap, ◌∙◌, subst, inl}
use Rattle.std.proofs.Common.{inr, arith}
use Rattle.std.proofs.Math.ListN.{get_or-map}
use Rattle.std.proofs.lemmas.Bool.{cases_eq, both_ways, eq-eqb}
use Rattle.std.proofs.lemmas.List.{length-map, length-set, length-replicate, get_or-set_same, get_or-set_other}
use Rattle.std.proofs.lemmas.Option.{none-some}
use Rattle.byte_strings.specs.Strings.{IsSized}
use Rattle.keys.specs.declared.NodeKey.{NodeKey}
use Rattle.keys.specs.Names.{unmade_key, keys_in}
use Rattle.tree.specs.declared.limits.TheConstants.{CRADLES}
use Rattle.cradles.specs.declared.Cradle.{Cradle}
use Rattle.cradles.specs.declared.Cradle.TheVariants.{Empty}
use Rattle.cradles.specs.Cradles.{occupant, holder, with_arrival, with_departure, without_notes, IsCradle}
use Rattle.cradles.proofs.Notes.{arrival_seated, arrival_noted, departure_seated, departure_holder, cleared_seated, cleared_holder}
use Rattle.server_rules.specs.declared.state.State.{State}
use Rattle.server_rules.specs.States.{new_state, cradle, is_that_serial, seat_index, held_cradle_index}
use Rattle.server_rules.specs.Calls.{Call, admit, remove, drop_notes, publish, card, IsGivenLawfully}
use Rattle.server_rules.specs.Notes.{admit_verdict, remove_verdict}
use Rattle.server_rules.specs.Publishings.{publish_verdict}
use Rattle.server_rules.specs.Steps.{server_with_cradles, server_with_cradle, server_with_arrival, server_with_departure_at}
use Rattle.server_rules.specs.Steps.{server_with_departure, server_without_notes}
use Rattle.server_rules.specs.Steps.{server_of_next_epoch, server_after}
use Rattle.server_rules.specs.Sound.{IsSoundServer}
use Rattle.byte_strings.proofs.Positions.{none_passes}
use Rattle.server_rules.proofs.Renewals.{unmade_sized}
use Rattle.server_rules.proofs.Publishings.{publish_sound}
use Rattle.server_rules.proofs.Verdicts.{left_either, admit_passed, plan_passed, publish_passed}

-- A new server.

-- at each place of a list of copies, also past its end, stands the same
replicated : {A : Type 0} (n i : ℕ) (x : A) → get_or (replicate n x) i x ≡ x
replicated zero i x = refl
replicated (suc n) zero x = refl
replicated (suc n) (suc i) x = replicated n i x

-- no node of a new server has a key
never_made : (n : ℕ) → keys_in new_state.nodes n ≡ unmade_key
never_made n = replicated 256 n unmade_key

-- every cradle of a new server is empty
all_empty : (c : ℕ) → cradle new_state c ≡ Empty
all_empty c = replicated CRADLES (c - 1) Empty

-- a new server is sound
pub new_sound : IsSoundServer new_state
new_sound = record {
  cradle_count = length-replicate CRADLES Empty;
  node_count = length-replicate 256 unmade_key;
  keys_sized = λ n. subst (λ (k : NodeKey). IsSized 32 k.key) (sym (never_made n)) unmade_sized;
  epoch_range = omega arith;
  seats_apart = λ c d x hc hd p q. absurd (none-some x (sym (ap occupant (all_empty c)) ∙ p));
  holders_apart = λ c d x hc hd p q. absurd (none-some x (sym (ap holder (all_empty c)) ∙ p));
  root_epoch = ap (λ (k : NodeKey). k.made) (never_made 1);
  epochs_rise = λ m n o b. omega (arith, ap (λ (k : NodeKey). k.made) (never_made m));
  empty_leaves = λ c h n. never_made (127 + c);
  seated_leaves = λ c x h n. absurd (none-some x (sym (ap occupant (all_empty c)) ∙ n));
}

-- A change of notes keeps who is where, and all keys.

-- once the notes are carried out, no serial is in two cradles
abbrev HasHoldersApart : State → Type 0
HasHoldersApart s = (c d x : ℕ) → IsCradle c → IsCradle d → holder (cradle s c) ≡ Some x → holder (cradle s d) ≡ Some x → c ≡ d

-- other notes keep a server sound, if nobody moves and no serial holds two cradles
noting_sound : (s : State) (cs : List Cradle) → IsSoundServer s → length cs ≡ CRADLES →
    ((c : ℕ) → IsCradle c → occupant (cradle (server_with_cradles s cs) c) ≡ occupant (cradle s c)) →
    HasHoldersApart (server_with_cradles s cs) → IsSoundServer (server_with_cradles s cs)
noting_sound s cs sound size same apart = record {
  cradle_count = size;
  node_count = sound.node_count;
  keys_sized = sound.keys_sized;
  epoch_range = sound.epoch_range;
  seats_apart = λ c d x hc hd p q. sound.seats_apart c d x hc hd (sym (same c hc) ∙ p) (sym (same d hd) ∙ q);
  holders_apart = apart;
  root_epoch = sound.root_epoch;
  epochs_rise = sound.epochs_rise;
  empty_leaves = λ c h n. sound.empty_leaves c h (sym (same c h) ∙ n);
  seated_leaves = λ c x h n. sound.seated_leaves c x h (sym (same c h) ∙ n);
}

-- all notes are cleared
drop_sound : (s : State) → IsSoundServer s → IsSoundServer (server_without_notes s)
drop_sound s sound = noting_sound s (map without_notes s.cradles) sound (length-map s.cradles without_notes ∙ sound.cradle_count)
    (λ c h. ap occupant (at c) ∙ cleared_seated (cradle s c))
    (λ c d x hc hd p q. sound.seats_apart c d x hc hd (sym (hold c) ∙ p) (sym (hold d) ∙ q))
  where
    at : (c : ℕ) → cradle (server_without_notes s) c ≡ without_notes (cradle s c)
    at c = get_or-map without_notes s.cradles (c - 1) Empty

    hold : (c : ℕ) → holder (cradle (server_without_notes s) c) ≡ occupant (cradle s c)
    hold c = ap holder (at c) ∙ cleared_holder (cradle s c)

-- One cradle with another note.

module _ (s : State) (sound : IsSoundServer s) (c : ℕ) (it : Cradle) where
  -- that cradle is the new one
  at_same : (d : ℕ) → IsCradle d → d ≡ c → cradle (server_with_cradle s c it) d ≡ it
  at_same d h e =
      ap (λ i. get_or (set s.cradles (i - 1) it) (d - 1) Empty) (sym e) ∙ get_or-set_same s.cradles (d - 1) it Empty (omega (arith, sound.cradle_count))

  -- every other cradle is as before
  at_other : (d : ℕ) → IsCradle d → 1 ≤ c → (d ≡ c → ⊥) → cradle (server_with_cradle s c it) d ≡ cradle s d
  at_other d h o x = get_or-set_other s.cradles (c - 1) (d - 1) it Empty (λ e. x (omega arith))

  -- the server stays sound, if the same scanner sits there and no serial holds two cradles
  one_sound : 1 ≤ c → occupant it ≡ occupant (cradle s c) → HasHoldersApart (server_with_cradle s c it) → IsSoundServer (server_with_cradle s c it)
  one_sound o same apart = noting_sound s (set s.cradles (c - 1) it) sound (length-set s.cradles (c - 1) it ∙ sound.cradle_count) seat apart
    where
      seat : (d : ℕ) → IsCradle d → occupant (cradle (server_with_cradle s c it) d) ≡ occupant (cradle s d)
      seat d h = elim (cases_eq d c) [
        | inl e ↦ ap occupant (at_same d h e) ∙ same ∙ ap (λ i. occupant (cradle s i)) (sym e)
        | inr x ↦ ap occupant (at_other d h o x)
      ]

-- A departure that is noted.

-- with a departure noted the server stays sound
left_sound : (s : State) (i : Option ℕ) → IsSoundServer s → IsSoundServer (server_with_departure_at s i)
left_sound s None sound = sound
left_sound s (Some i) sound = one_sound s sound (i + 1) it (omega arith) (departure_seated (cradle s (i + 1)))
    (λ d e x hd he p q. sound.holders_apart d e x hd he (before d x hd p) (before e x he q))
  where
    it : Cradle
    it = with_departure (cradle s (i + 1))

    before : (d x : ℕ) → IsCradle d → holder (cradle (server_with_cradle s (i + 1) it) d) ≡ Some x → holder (cradle s d) ≡ Some x
    before d x h p = elim (cases_eq d (i + 1)) [
      | inl e ↦ ap (λ j. holder (cradle s j)) e ∙ departure_holder (cradle s (i + 1)) x (sym (ap holder (at_same s sound (i + 1) it d h e)) ∙ p)
      | inr y ↦ sym (ap holder (at_other s sound (i + 1) it d h (omega arith) y)) ∙ p
    ]

-- An arrival that is noted.

-- who is not found holds no cradle
not_held : (s : State) (x c : ℕ) → IsSoundServer s → IsCradle c → held_cradle_index x s ≡ None → holder (cradle s c) ≡ Some x → ⊥
not_held s x c sound h e q =
    both_ways (is_that_serial x (holder (cradle s c)))
    (none_passes (λ k. is_that_serial x (holder k)) s.cradles (c - 1) Empty e (omega (arith, sound.cradle_count)))
    (ap (is_that_serial x) q ∙ eq-eqb x x refl)

-- with an arrival noted, of who holds no cradle in one that nobody holds, the server stays sound
admitted_sound : (s : State) (x c : ℕ) → IsSoundServer s → 1 ≤ c →
    held_cradle_index x s ≡ None → holder (cradle s c) ≡ None → IsSoundServer (server_with_arrival s x c)
admitted_sound s x c sound o out free = one_sound s sound c it o (arrival_seated (cradle s c) x) apart
  where
    it : Cradle
    it = with_arrival (cradle s c) x

    here : (d : ℕ) → IsCradle d → d ≡ c → holder (cradle (server_with_arrival s x c) d) ≡ Some x
    here d h e = ap holder (at_same s sound c it d h e) ∙ (arrival_noted (cradle s c) x free).1

    there : (d : ℕ) → IsCradle d → (d ≡ c → ⊥) → holder (cradle (server_with_arrival s x c) d) ≡ holder (cradle s d)
    there d h n = ap holder (at_other s sound c it d h o n)

    -- whoever holds another cradle is not who arrives
    other : (d e y : ℕ) → IsCradle d → IsCradle e → d ≡ c → (e ≡ c → ⊥) →
        holder (cradle (server_with_arrival s x c) d) ≡ Some y → holder (cradle (server_with_arrival s x c) e) ≡ Some y → ⊥
    other d e y hd he q n p r = not_held s x e sound he out (sym (there e he n) ∙ r ∙ sym p ∙ here d hd q)

    apart : HasHoldersApart (server_with_arrival s x c)
    apart d e y hd he p r = elim (cases_eq d c) [
      | inl q ↦ elim (cases_eq e c) [
        | inl z ↦ q ∙ sym z
        | inr n ↦ absurd (other d e y hd he q n p r)
      ]
      | inr n ↦ elim (cases_eq e c) [
        | inl z ↦ absurd (other e d y he hd z n r p)
        | inr m ↦ sound.holders_apart d e y hd he (sym (there d hd n) ∙ p) (sym (there e he m) ∙ r)
      ]
    ]

-- Every call, accepted or refused.

-- any call that is given lawfully leaves a sound server sound
pub after_sound : (s : State) (c : Call) → IsGivenLawfully c → IsSoundServer s → IsSoundServer (server_after s c)
after_sound s (admit x c) g sound = left_either IsSoundServer (admit_verdict s x c) (server_with_arrival s x c) s
    (λ a e. let h = admit_passed s x c e in admitted_sound s x c sound h.0.0 h.1.0 h.1.1) sound
after_sound s (remove x) g sound =
    left_either IsSoundServer (remove_verdict s x) (server_with_departure s x) s (λ a e. left_sound s (seat_index x s) sound) sound
after_sound s drop_notes g sound = drop_sound s sound
after_sound s (publish p) g sound = left_either IsSoundServer (publish_verdict s p) (server_of_next_epoch s p.material) s
    (λ a e. let h = plan_passed s p (publish_passed s p a e) in publish_sound s p.material sound h.0 h.1.0 g.1.1 h.1.1) sound
after_sound s (card x buffer) g sound = sound
