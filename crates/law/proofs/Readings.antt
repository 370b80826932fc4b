-- Who stays and who arrives reads the file of a publishing.
use Rattle.std.proofs.Common.{◌≡◌, ℕ, ◌+◌, ◌<◌, ◌≤◌, List, ◌∷◌, ◌++◌, length, map, None, refl, sym, ap, ◌∙◌, inl, inr, arith}
use Rattle.std.specs.List.{range_with_len}
use Rattle.std.proofs.lemmas.Bool.{both_ways, false≢true, false_from_ne_true, le-ltb, eq-eqb}
use Rattle.byte_strings.specs.Numbers.{be_number4}
use Rattle.tree.specs.Tree.{ancestor}
use Rattle.tree.specs.Rows.{code_at, is_occupied_after, is_changed}
use Rattle.tree.proofs.Members.{in_counting}
use Rattle.tree.proofs.Standing.{changed_inner, changed_iff, occupied_leaf}
use Rattle.keys.specs.declared.NodeKey.{NodeKey}
use Rattle.keys.specs.Names.{unmade_key}
use Rattle.file_rules.specs.Files.{Rekey, file_bytes}
use Rattle.file_rules.specs.Layout.{layout_fault}
use Rattle.file_rules.specs.Reading.{parsed_file}
use Rattle.file_rules.proofs.Returned.{returned}
use Rattle.server_rules.specs.declared.state.State.{State}
use Rattle.server_rules.specs.States.{row}
use Rattle.cradles.specs.Draws.{is_arrival_code, is_emptying_code}
use Rattle.server_rules.specs.Calls.{Publishing}
use Rattle.wrap.specs.Meaning.{WrapMeaning}
use Rattle.server_rules.specs.Publishings.{publishing_file}
use Rattle.server_rules.specs.Steps.{server_of_next_epoch}
use Rattle.server_rules.proofs.Publishings.{made_by_now}
use Rattle.server_rules.proofs.Renewals.{joins_is}
use Rattle.player_rules.specs.Rings.{entries, entry_bytes, ring_bytes, path_entries}
use Rattle.player_rules.specs.Climbs.{ring_after_file}
use Rattle.player_rules.specs.Players.{read_verdict}
use Rattle.law.specs.Readers.{IsStayingPlayer, IsArrivingPlayer, IsPlannedPublishing, ReadsPublishing}
use Rattle.player_rules.proofs.Rings.{IsFitting, map_fitting, entries_back, zeros, node_there, inner_there, beneath_there}
use Rattle.law.proofs.Openings.{old_keys, new_keys, IsAcceptedPublishing, publishing_accepted, MayHave}
use Rattle.law.proofs.WaysUp.{HasBefore, follow}

-- a file that passes the checks is followed
read_on : (leaf wanted : ℕ) (w : WrapMeaning) (file work ring : List ℕ) (f : Rekey) (es : List NodeKey) → 512 ≤ length work → length ring ≡ 288 →
    layout_fault w.kind w.length file ≡ None → be_number4 file 3 ≡ wanted → parsed_file w.length file ≡ f → entries ring ≡ es →
    read_verdict leaf wanted w file work ring ≡ ring_after_file w f leaf es
read_on leaf wanted w file work ring f es l h a e r b =
    rw (le-ltb (length work) 512 l) (rw (eq-eqb (length ring) 288 h) (rw a (rw (le-ltb (be_number4 file 3) wanted (omega arith))
    (rw (le-ltb wanted (be_number4 file 3) (omega arith)) (ap (λ g. ring_after_file w g leaf (entries ring)) r ∙ ap (ring_after_file w f leaf) b)))))

module _ (s : State) (p : Publishing) (planned : IsPlannedPublishing s p) (leaf : ℕ) (ring : List ℕ) where
  -- the publishing is accepted
  abbrev a : IsAcceptedPublishing s p
  a = publishing_accepted s p planned

  -- every new key fits an entry of a ring
  new_fits : (n : ℕ) → 0 < n → IsFitting (new_keys s p n)
  new_fits n o = (omega (arith, made_by_now (server_of_next_epoch s p.material) n a.since o, a.since.epoch_range), (a.since.keys_sized n).0)

  -- whatever a player can have for a node fits an entry of a ring
  fits : (n : ℕ) → 0 < n → (e : NodeKey) → MayHave s p n e → IsFitting e
  fits n o e (inl q) = rw q (omega (arith, made_by_now s n planned.sound o, planned.sound.epoch_range), (planned.sound.keys_sized n).0)
  fits n o e (inr (inl q)) = rw q (new_fits n o)
  fits n o e (inr (inr q)) = rw q (omega arith, refl)

  -- whose ring holds the new key of its leaf, and what it has for the nodes above
  reads : (had : ℕ → NodeKey) → HasBefore s p leaf had → ring ≡ ring_bytes (new_keys s p leaf ∷ map had (range_with_len 1 7)) →
      ReadsPublishing s p leaf ring
  reads had b e work room =
      let es = new_keys s p leaf ∷ map had (range_with_len 1 7) in
      let above = map_fitting had (range_with_len 1 7)
      (λ k i. fits (ancestor k leaf) (node_there k leaf b.is_leaf (in_counting 1 7 k i).1) (had k) (b.known k)) in
      let back = entries_back ring es refl (new_fits leaf (omega (arith, b.is_leaf.0)), above) e in
      let file = returned p.wrap.length (publishing_file s p) a.file in
      read_on leaf (s.epoch + 1) p.wrap (file_bytes (publishing_file s p)) work ring (publishing_file s p) es room back.0 file.accepts
      (ap (λ (f : Rekey). f.epoch) file.reads_back) file.reads_back back.1
      ∙ follow s p a leaf had b

  -- who stays reads the file, and has the new keys up to the root
  pub staying_reads : IsStayingPlayer s leaf ring → ReadsPublishing s p leaf ring
  unfolding path_entries
  staying_reads st = reads (λ k. old_keys s (ancestor k leaf)) (record {
    is_leaf = st.is_leaf;
    seat = occupied_leaf (row s) leaf st.is_leaf ∙ ap is_occupied_after st.stays;
    known = λ k. inl refl;
    stayed = λ e k. refl;
    kept = λ k l h z. sym (a.change.others_kept (ancestor k leaf) z (λ f. absurd (omega (arith, f.0, (inner_there k leaf st.is_leaf l h).1))));
  }) (st.holds ∙ ap (λ e. ring_bytes (e ∷ map (λ k. old_keys s (ancestor k leaf)) (range_with_len 1 7))) same_leaf)
    where
      same_leaf : old_keys s leaf ≡ new_keys s p leaf
      same_leaf = sym (a.change.others_kept leaf
          (false_from_ne_true (is_changed (row s) leaf) (λ y. omega (arith, (changed_inner (row s) leaf y).1, st.is_leaf.0)))
          (λ l. (ap is_arrival_code st.stays, ap is_emptying_code st.stays)))

  -- who arrives reads the file, and has the new keys up to the root
  pub arriving_reads : IsArrivingPlayer s p.material leaf ring → ReadsPublishing s p leaf ring
  arriving_reads ar =
      let joined = joins_is (code_at (row s) leaf) ar.arrives in
      reads (λ k. unmade_key) (record {
        is_leaf = ar.is_leaf;
        seat = occupied_leaf (row s) leaf ar.is_leaf ∙ joined.0;
        known = λ k. inr (inr refl);
        stayed = λ e k. absurd (false≢true (sym (ap is_arrival_code e) ∙ ar.arrives));
        kept = λ k l h z. absurd (both_ways (is_changed (row s) (ancestor k leaf)) z ((changed_iff (row s) (ancestor k leaf)).1
            (inner_there k leaf ar.is_leaf l h, (leaf, (ar.is_leaf, (beneath_there k leaf l, joined.1))))));
      }) (ar.holds ∙ ap (λ l. entry_bytes (new_keys s p leaf) ++ l) zeros)
