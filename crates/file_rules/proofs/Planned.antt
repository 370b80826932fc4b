-- The file of a lawful plan is sound.
use Rattle.std.proofs.Common.{◌≡◌, ℕ, zero, suc, ◌<◌, ◌≤◌, Bool, true, false, cond, List, ◌∷◌, filter, sym, refl, ap, ◌∙◌, subst, arith}
use Rattle.std.proofs.lemmas.List.{length-map}
use Rattle.byte_strings.specs.Strings.{IsSized}
use Rattle.byte_strings.proofs.Parts.{append_bytes}
use Rattle.keys.specs.Names.{Keys, key_name, name_bytes, wrap_name}
use Rattle.tree.specs.declared.types.Code.{Code}
use Rattle.tree.specs.declared.types.Opener.{Opener}
use Rattle.tree.specs.declared.types.Opener.TheVariants.{Present, Former}
use Rattle.tree.specs.declared.types.Pair.{Pair}
use Rattle.tree.specs.Tree.{inner_nodes, countdown}
use Rattle.tree.specs.Plans.{pair, MayOpen, IsLawfulPlan}
use Rattle.tree.specs.Rows.{is_occupied_after, is_stay_code, stands_within, is_changed, is_occupied, changed_nodes}
use Rattle.tree.proofs.Members.{in_contains, contains_in, in_map}
use Rattle.tree.proofs.LawfulPlans.{plan_content, plan_opener}
use Rattle.tree.proofs.Halvings.{beneath_greater, halved_low, beneath_within}
use Rattle.tree.proofs.Standing.{stands_is, changed_inner, changed_in}
use Rattle.file_rules.specs.Files.{WrappedKey}
use Rattle.file_rules.specs.Sealing.{pair_wrap, rekey_of}
use Rattle.wrap.specs.Meaning.{Sealing}
use Rattle.file_rules.specs.Laws.{Falls, IsSoundWrap, IsSoundFile, IsTimely, SealsTo}
use Rattle.file_rules.proofs.Places.{big4_bytes}
use Rattle.file_rules.proofs.Falling.{falls_more}

-- those that pass of k, k - 1, .. 1, if 1 does
falls_kept : (test : ℕ → Bool) (b k : ℕ) → 0 < k → k < b → test 1 ≡ true → Falls b (filter test (countdown k))
falls_kept test b zero l h e = absurd (omega arith)
falls_kept test b (suc zero) l h e = rw e (h, refl)
falls_kept test b (suc (suc k)) l h e =
    go (filter test (countdown (suc k))) (test (suc (suc k)))
    (falls_kept test (suc (suc k)) (suc k) (omega arith) (omega arith) e)
    (falls_kept test b (suc k) (omega arith) (omega arith) e)
  where
    go : (ns : List ℕ) (t : Bool) → Falls (suc (suc k)) ns → Falls b ns → Falls b (cond t (suc (suc k) ∷ ns) ns)
    go ns true f g = falls_more b (suc (suc k)) ns h f
    go ns false f g = g

-- the changed nodes fall and end with node 1, where that one is changed
changed_fall : (row : List Code) → is_changed row 1 ≡ true → Falls 128 (changed_nodes row)
unfolding changed_nodes inner_nodes
changed_fall row e = falls_kept (is_changed row) 128 127 (omega arith) (omega arith) e

-- a name has ten bytes
pub name_sized : (a b ea eb : ℕ) → a < 256 → b < 256 → IsSized 10 (wrap_name (key_name a ea) (key_name b eb))
name_sized a b ea eb ha hb =
    (refl, append_bytes (name_bytes (key_name a ea)) (name_bytes (key_name b eb)) (ha, big4_bytes ea) (hb, big4_bytes eb))

-- an occupied node has a number below 256
occupied_node : (row : List Code) (o : ℕ) → is_occupied row o ≡ true → o < 256
unfolding is_occupied
occupied_node row o e = let s = stands_is is_occupied_after row o e in omega (arith, halved_low s.under.0 s.at, s.under.1, s.is_leaf.1)

module _ (L : ℕ) (seals : Sealing) (row : List Code) (epoch : ℕ) (former present : Keys) (to : SealsTo L seals) (t : IsTimely row epoch former present) where
  -- the wrap of a pair that may stand in a plan
  wrap_sound : (o : Opener) (n : ℕ) → is_changed row n ≡ true → MayOpen row n o →
      IsSoundWrap L epoch (changed_nodes row) (pair_wrap seals epoch former present (pair o n))
  wrap_sound (Present o) n c m =
      let i = changed_inner row n c in
      let h : o < 256 = occupied_node row o m.0 in
      let k : n < 256 = omega (arith, i.1) in
      let g : n < o = beneath_greater o n i.0 m.1 in
      record {
        opener_range = (omega arith, omega arith);
        opener_epoch = t.present_made o h m.0;
        content_listed = in_contains (changed_nodes row) n (changed_in row n c);
        opener_within = beneath_within o n m.1;
        own_key_earlier = λ e. absurd (omega arith);
        sealed_bytes = to _ _ _ (t.present_keys o h) (name_sized o n (present o).made epoch h k) (t.present_keys n k);
      }
  wrap_sound (Former o) n c m =
      let i = changed_inner row n c in
      let k : n < 256 = omega (arith, i.1) in
      let h : o < 256 = omega (arith, m.0) in
      let made = t.former_made o h (ap (stands_within is_stay_code row) m.0 ∙ m.1.0) in
      record {
        opener_range = (omega (arith, m.0, i.0), omega arith);
        opener_epoch = (made.0, omega (arith, made.1));
        content_listed = in_contains (changed_nodes row) n (changed_in row n c);
        opener_within = (0, m.0);
        own_key_earlier = λ e. made.1;
        sealed_bytes = to _ _ _ (t.former_keys o h) (name_sized o n (former o).made epoch h k) (t.present_keys n k);
      }

-- with keys that were made in time, the file of a lawful plan is sound
pub plan_is_sound : (kind L : ℕ) (seals : Sealing) → (1 ≤ kind) × (kind ≤ 255) → SealsTo L seals →
    (row : List Code) (plan : List Pair) (epoch : ℕ) (former present : Keys) → is_changed row 1 ≡ true → IsLawfulPlan row plan →
    (1 ≤ epoch) × (epoch ≤ 1000000) → IsTimely row epoch former present → IsSoundFile L (rekey_of kind seals epoch (changed_nodes row) plan former present)
plan_is_sound kind L seals kinds to row plan epoch former present one lawful range t = record {
  kind_range = kinds;
  epoch_range = range;
  nodes_fall = changed_fall row one;
  few_wraps = omega (arith, length-map plan (pair_wrap seals epoch former present), lawful.few);
  each_wrap = λ w h.
      let m = in_map (pair_wrap seals epoch former present) plan w (contains_in _ w h) in
      subst (λ (v : WrappedKey). IsSoundWrap L epoch (changed_nodes row) v) (sym m.1.1)
      (wrap_sound L seals row epoch former present to t m.0.opener m.0.content (plan_content lawful m.0 m.1.0) (plan_opener lawful m.0 m.1.0));
}
