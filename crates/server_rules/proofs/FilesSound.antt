-- The file of a publishing is sound.
use Rattle.std.proofs.Common.{◌≡◌, ℕ, ◌+◌, ◌<◌, ◌≤◌, Bool, true, List, Ok, sym, ap, ◌∙◌, subst, inl, inr, arith}
use Rattle.std.proofs.lemmas.Bool.{both_ways, cases_eq}
use Rattle.std.proofs.lemmas.List.{length-map}
use Rattle.keys.specs.Names.{keys_in}
use Rattle.tree.specs.declared.types.Code.{Code}
use Rattle.tree.specs.Tree.{IsWithin}
use Rattle.tree.specs.Rows.{code_at, is_occupied_after, is_stay_code, stands_within, is_occupied}
use Rattle.tree.proofs.Halvings.{within_cases}
use Rattle.tree.proofs.Standing.{stands_is, stands_zero}
use Rattle.file_rules.specs.Laws.{IsTimely}
use Rattle.file_rules.specs.Laws as files
use Rattle.file_rules.proofs.Planned.{plan_is_sound}
use Rattle.cradles.specs.Cradles.{cradle_code, occupant, IsCradle}
use Rattle.cradles.proofs.Notes.{carried_seated, seats_holder, stays_seated}
use Rattle.server_rules.specs.declared.state.State.{State}
use Rattle.server_rules.specs.States.{cradle, leaf_of, row}
use Rattle.server_rules.specs.Calls.{publish, Publishing, IsGivenLawfully}
use Rattle.server_rules.specs.Publishings.{publishing_plan, publish_plan_verdict, publishing_file}
use Rattle.server_rules.specs.Steps.{server_of_next_epoch}
use Rattle.server_rules.specs.Sound.{IsSoundServer}
use Rattle.server_rules.proofs.Rows.{code_at_leaf, cradle_of, noted_root}
use Rattle.server_rules.proofs.Publishings.{made_by_now, carried, publish_sound}
use Rattle.server_rules.proofs.Verdicts.{plan_passed}

-- above a leaf whose key was made, every node's key was made
made_above : (s : State) (u n : ℕ) → IsSoundServer s → 0 < n → IsWithin u n → 1 ≤ (keys_in s.nodes u).made → 1 ≤ (keys_in s.nodes n).made
made_above s u n sound o w l = elim (within_cases u n w) [
  | inl e ↦ omega (arith, ap (λ i. (keys_in s.nodes i).made) e)
  | inr b ↦ omega (arith, sound.epochs_rise u n o b)
]

module _ (s : State) (test : Code → Bool) (n : ℕ) where
  -- a node that something stands beneath is not 0
  standing_node : stands_within test (row s) n ≡ true → 0 < n
  standing_node e = elim (cases_eq n 0) [
    | inl z ↦ absurd (both_ways (stands_within test (row s) n) (ap (stands_within test (row s)) z ∙ stands_zero test (row s)) e)
    | inr x ↦ omega arith
  ]

  -- what stands beneath a node is the code of a cradle
  standing_cradle : stands_within test (row s) n ≡ true → (c : ℕ) × (IsCradle c × (IsWithin (leaf_of c) n × (test (cradle_code (cradle s c)) ≡ true)))
  standing_cradle e =
      let w = stands_is test (row s) n e in
      let c = cradle_of w.at w.is_leaf in
      (c.0, (c.1.0, (subst (λ (u : ℕ). IsWithin u n) (sym c.1.1) w.under, ap test (sym (code_at_leaf s c.0 c.1.0) ∙ ap (code_at (row s)) c.1.1) ∙ w.passes)))

module _ (s : State) (material : List ℕ) (sound : IsSoundServer s) (then : IsSoundServer (server_of_next_epoch s material)) where
  -- the server after the publishing
  abbrev next_state : State
  next_state = server_of_next_epoch s material

  -- an occupied node has a key after the change, made by the new epoch
  present_made : (n : ℕ) → is_occupied (row s) n ≡ true → (1 ≤ (keys_in next_state.nodes n).made) × ((keys_in next_state.nodes n).made ≤ s.epoch + 1)
  unfolding is_occupied
  present_made n e =
      let o = standing_node s is_occupied_after n e in
      let c = standing_cradle s is_occupied_after n e in
      let k = seats_holder (cradle s c.0) c.1.1.1 in
      let made = then.seated_leaves c.0 k.0 c.1.0 (ap occupant (carried s material sound c.0) ∙ carried_seated (cradle s c.0) ∙ k.1) in
      (made_above next_state (leaf_of c.0) n then o c.1.1.0 made, made_by_now next_state n then o)

  -- a node at or above a leaf that stays had a key before the change, of an earlier epoch
  former_made : (n : ℕ) → stands_within is_stay_code (row s) n ≡ true → (1 ≤ (keys_in s.nodes n).made) × ((keys_in s.nodes n).made < s.epoch + 1)
  former_made n e =
      let o = standing_node s is_stay_code n e in
      let c = standing_cradle s is_stay_code n e in
      let k = stays_seated (cradle s c.0) c.1.1.1 in
      (made_above s (leaf_of c.0) n sound o c.1.1.0 (sound.seated_leaves c.0 k.0 c.1.0 k.1), omega (arith, made_by_now s n sound o))

  -- all keys before and after the change were made in time
  timely : IsTimely (row s) (s.epoch + 1) (keys_in s.nodes) (keys_in next_state.nodes)
  timely = record {
    former_keys = λ n l. sound.keys_sized n;
    present_keys = λ n l. then.keys_sized n;
    present_made = λ n l e. present_made n e;
    former_made = λ n l e. former_made n e;
  }

-- the file of a publishing that passed the checks before its plan is sound
pub file_sound : (s : State) (p : Publishing) → IsGivenLawfully (publish p) → IsSoundServer s →
    publish_plan_verdict s p ≡ Ok tt → files.IsSoundFile p.wrap.length (publishing_file s p)
file_sound s p g sound e =
    let h = plan_passed s p e in
    let then = publish_sound s p.material sound h.0 h.1.0 g.1.1 h.1.1 in
    plan_is_sound p.wrap.kind p.wrap.length p.wrap.seals g.1.0.kind_range g.1.0.sealed_sized (row s) (publishing_plan s p) (s.epoch + 1)
    (keys_in s.nodes) (keys_in (server_of_next_epoch s p.material).nodes) (noted_root s sound h.0)
    (g.0 (row s) (length-map s.cradles cradle_code ∙ sound.cradle_count)) (omega arith, omega arith) (timely s p.material sound then)
