-- A wrap of a published file opens, under what a player has under its opener's name, to the content's new key.
use Rattle.std.proofs.Common.{◌≡◌, ℕ, ◌+◌, ◌<◌, ◌≤◌, length, Some, sym, ap, ◌∙◌, subst, ◌⊎◌, inl, inr, arith}
use Rattle.std.proofs.lemmas.Bool.{cases_Bool, false_from_ne_true, cond-true, eq-eqb}
use Rattle.std.proofs.lemmas.List.{length-map}
use Rattle.byte_strings.specs.Strings.{IsSized}
use Rattle.tree.specs.declared.types.Opener.{Opener}
use Rattle.tree.specs.declared.types.Opener.TheVariants.{Present, Former}
use Rattle.tree.specs.declared.types.Pair.{Pair}
use Rattle.tree.specs.Rows.{code_at, is_changed}
use Rattle.tree.specs.Plans.{IsLawfulPlan}
use Rattle.tree.proofs.Members.{In, in_map, map_in, in_contains}
use Rattle.tree.proofs.Standing.{changed_inner}
use Rattle.tree.proofs.LawfulPlans.{plan_content}
use Rattle.keys.specs.declared.NodeKey.{NodeKey}
use Rattle.keys.specs.Names.{Keys, key_name, unmade_key, keys_in, wrap_name}
use Rattle.file_rules.specs.Files.{WrappedKey}
use Rattle.file_rules.specs.Laws as files
use Rattle.file_rules.specs.Sealing.{opener_node, opener_key, pair_wrap}
use Rattle.server_rules.specs.declared.state.State.{State}
use Rattle.server_rules.specs.States.{row}
use Rattle.cradles.specs.Draws.{is_arrival_code, is_emptying_code}
use Rattle.server_rules.specs.Calls.{Publishing}
use Rattle.wrap.specs.Meaning.{IsLawfulWrap}
use Rattle.server_rules.specs.Publishings.{publishing_plan, publishing_file}
use Rattle.server_rules.specs.Steps.{server_of_next_epoch}
use Rattle.server_rules.specs.Sound.{IsSoundServer}
use Rattle.server_rules.specs.Laws.{IsRenewal}
use Rattle.server_rules.proofs.Renewals.{epoch_of_key, renewal}
use Rattle.server_rules.proofs.Publishings.{made_by_now, publish_sound}
use Rattle.file_rules.proofs.Planned.{name_sized}
use Rattle.server_rules.proofs.Verdicts.{plan_passed}
use Rattle.server_rules.proofs.FilesSound.{file_sound}
use Rattle.player_rules.specs.Climbs.{wrap_content}
use Rattle.law.specs.Readers.{IsPlannedPublishing}

-- the keys of all nodes before a publishing
abbrev pub old_keys : State → Keys
old_keys s = keys_in s.nodes

-- the keys of all nodes after it
abbrev pub new_keys : State → Publishing → Keys
new_keys s p = keys_in (server_of_next_epoch s p.material).nodes

-- the wrap of a pair of its plan, as its file has it
abbrev pub wrap_for : State → Publishing → Pair → WrappedKey
wrap_for s p = pair_wrap p.wrap.seals (s.epoch + 1) (old_keys s) (new_keys s p)

-- what is known of a publishing that passed the checks before its plan
pub record IsAcceptedPublishing (s : State) (p : Publishing) : Type 0 where
  pub before : IsSoundServer s
  pub since : IsSoundServer (server_of_next_epoch s p.material)
  pub change : IsRenewal (s.epoch + 1) (row s) p.material (old_keys s) (new_keys s p)
  pub wrap : IsLawfulWrap p.wrap
  pub plan : IsLawfulPlan (row s) (publishing_plan s p)
  pub file : files.IsSoundFile p.wrap.length (publishing_file s p)

-- all this is known of a publishing that passed the checks before its plan
pub publishing_accepted : (s : State) (p : Publishing) → IsPlannedPublishing s p → IsAcceptedPublishing s p
publishing_accepted s p it =
    let h = plan_passed s p it.passes in
    record {
      before = it.sound;
      since = publish_sound s p.material it.sound h.0 h.1.0 it.given.1.1 h.1.1;
      change = renewal (row s) (s.epoch + 1) p.material s.nodes it.sound.node_count;
      wrap = it.given.1.0;
      plan = it.given.0 (row s) (length-map s.cradles _ ∙ it.sound.cradle_count);
      file = file_sound s p it.given it.sound it.passes;
    }

-- what a player can have for a node: its key before the change, its key after it, or none
abbrev pub MayHave : State → Publishing → ℕ → NodeKey → Type 0
MayHave s p n e = (e ≡ old_keys s n) ⊎ ((e ≡ new_keys s p n) ⊎ (e ≡ unmade_key))

module _ (s : State) (p : Publishing) (a : IsAcceptedPublishing s p) where
  -- a node's keys before and after, if made in the same epoch, are the same key
  same_key : (n : ℕ) → 0 < n → 1 ≤ (new_keys s p n).made → (old_keys s n).made ≡ (new_keys s p n).made → old_keys s n ≡ new_keys s p n
  same_key n o l e = elim (cases_Bool (is_changed (row s) n)) [
    | inl y ↦ absurd (omega (arith, a.change.changed_new n y, made_by_now s n a.before o))
    | inr z ↦ sym (a.change.others_kept n z (λ f. (
      false_from_ne_true (is_arrival_code (code_at (row s) n)) (λ j. omega (arith, a.change.arrival_new n f j, made_by_now s n a.before o)),
      false_from_ne_true (is_emptying_code (code_at (row s) n)) (λ x. omega (arith, ap epoch_of_key (a.change.emptied_none n f x))),
    )))
  ]

  -- the opener's name decides its key
  decided : (o : Opener) (e : NodeKey) → 0 < opener_node o → 1 ≤ (opener_key (old_keys s) (new_keys s p) o).made →
      e.made ≡ (opener_key (old_keys s) (new_keys s p) o).made →
      MayHave s p (opener_node o) e → e ≡ opener_key (old_keys s) (new_keys s p) o
  decided (Present n) e h l m (inl q) = q ∙ same_key n h l (sym (ap epoch_of_key q) ∙ m)
  decided (Present n) e h l m (inr (inl q)) = q
  decided (Present n) e h l m (inr (inr q)) = absurd (omega (arith, ap epoch_of_key q))
  decided (Former n) e h l m (inl q) = q
  decided (Former n) e h l m (inr (inl q)) = let r = sym m ∙ ap epoch_of_key q in q ∙ sym (same_key n h (omega (arith, r)) r)
  decided (Former n) e h l m (inr (inr q)) = absurd (omega (arith, ap epoch_of_key q))

  -- the key of an opener has 32 bytes
  key_sized : (o : Opener) → IsSized 32 (opener_key (old_keys s) (new_keys s p) o).key
  key_sized (Present n) = a.since.keys_sized n
  key_sized (Former n) = a.before.keys_sized n

  -- under a key that a player may have for the opener, if it was made in the epoch of the opener's name
  abbrev OpensToNewKey : NodeKey → WrappedKey → Type 0
  OpensToNewKey e w = MayHave s p w.opener.node e → e.made ≡ w.opener.epoch →
      wrap_content p.wrap (s.epoch + 1) e.key w ≡ Some (new_keys s p w.content).key

  -- the wrap of a pair opens to its content's new key
  pair_opened : (q : Pair) → In q (publishing_plan s p) → (e : NodeKey) → OpensToNewKey e (wrap_for s p q)
  pair_opened q i e k m =
      let w = a.file.each_wrap (wrap_for s p q)
      (in_contains (publishing_file s p).wraps (wrap_for s p q) (map_in (wrap_for s p) (publishing_plan s p) q i)) in
      let n = changed_inner (row s) q.content (plan_content a.plan q i) in
      let name = wrap_name (wrap_for s p q).opener (key_name q.content (s.epoch + 1)) in
      let sized = name_sized (opener_node q.opener) q.content (wrap_for s p q).opener.epoch (s.epoch + 1)
      (omega (arith, w.opener_range.1)) (omega (arith, n.1)) in
      cond-true _ _ _ (eq-eqb (length (wrap_for s p q).sealed_key) p.wrap.length w.sealed_bytes.0)
      ∙ ap (λ (x : NodeKey). p.wrap.opens x.key name (wrap_for s p q).sealed_key)
      (decided q.opener e (omega (arith, w.opener_range.0)) w.opener_epoch.0 m k)
      ∙ a.wrap.opens_sealed (opener_key (old_keys s) (new_keys s p) q.opener).key name (new_keys s p q.content).key (key_sized q.opener) sized
      (a.since.keys_sized q.content)

  -- every wrap of the file opens to its content's new key
  pub wrap_opened : (w : WrappedKey) → In w (publishing_file s p).wraps → (e : NodeKey) → OpensToNewKey e w
  wrap_opened w i e =
      let r = in_map (wrap_for s p) (publishing_plan s p) w i in
      subst (OpensToNewKey e) (sym r.1.1) (pair_opened r.0 r.1.0 e)
