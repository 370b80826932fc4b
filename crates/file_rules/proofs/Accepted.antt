-- Accepted bytes are what a sound file is written as.
use Rattle.std.proofs.Common.{◌≡◌, ℕ, zero, suc, ◌+◌, ◌<◌, ◌≤◌, true, eqb, List, length, take, drop, None, sym, refl, ◌∙◌, subst, inl, inr, arith}
use Rattle.std.proofs.lemmas.Bool.{eqb-true}
use Rattle.byte_strings.specs.Numbers.{byte_at, be_number4}
use Rattle.byte_strings.specs.Strings.{IsBytes}
use Rattle.byte_strings.proofs.Parts.{at_byte, part_sized}
use Rattle.tree.specs.Tree.{is_within}
use Rattle.tree.proofs.Members.{In, in_contains, contains_in, some_who}
use Rattle.tree.proofs.Halvings.{within_is}
use Rattle.file_rules.specs.Fields.{fault_in}
use Rattle.file_rules.specs.Files.{WrappedKey}
use Rattle.file_rules.specs.Layout.{node_fields, lists, wrap_fields, wraps_fields, nodes_of, wrap_count, layout_fault}
use Rattle.file_rules.specs.Reading.{wrap_at, wraps_from}
use Rattle.file_rules.specs.Laws.{Falls, IsSoundWrap, WasWritten}
use Rattle.file_rules.proofs.Faults.{none_both, at_values}
use Rattle.file_rules.proofs.Faultless.{faultless_head, faultless_node, wraps_pass, wraps_end, count_ends, wrap_ends}
use Rattle.file_rules.proofs.Falling.{falls_more}
use Rattle.file_rules.proofs.Rewritten.{drop_byte, wraps_many, rewritten}

-- changed nodes without fault fall, and end with 1
nodes_fall : (bs : List ℕ) (at before left : ℕ) → 0 < left → fault_in bs (node_fields bs at before left) ≡ None → Falls before (take left (drop at bs))
nodes_fall bs at before zero h e = absurd (omega arith)
nodes_fall bs at before (suc zero) h e =
    let n = faultless_node bs at before 0 e in
    subst (λ (l : List ℕ). Falls before (take 1 l)) (sym (drop_byte bs at (at + 1) refl n.inside)) (n.below, n.last refl)
nodes_fall bs at before (suc (suc left)) h e =
    let n = faultless_node bs at before (suc left) e in
    subst (λ (l : List ℕ). Falls before (take (suc (suc left)) l)) (sym (drop_byte bs at (at + 1) refl n.inside))
    (falls_more before (byte_at bs at) (take (suc left) (drop (at + 1) bs)) n.below (nodes_fall bs (at + 1) (byte_at bs at) (suc left) (omega arith) n.more))

-- a node that passes as listed is one of the list
pub listed_in : (nodes : List ℕ) (v : ℕ) → lists nodes v ≡ true → In v nodes
listed_in nodes v e =
    let w = some_who (λ n. eqb n v) nodes e in subst (λ (n : ℕ). In n nodes) (eqb-true w.0 v w.1.1) w.1.0

-- a wrap without fault
module _ (L epoch : ℕ) (nodes bs : List ℕ) (hb : IsBytes bs) (at : ℕ) (e : fault_in bs (wrap_fields L epoch nodes bs at) ≡ None) where
  -- its content is one of the changed nodes
  wrap_listed : lists nodes (byte_at bs (at + 5)) ≡ true
  wrap_listed = grind arith

  -- its opener is its content or beneath it
  wrap_within : is_within (byte_at bs at) (byte_at bs (at + 5)) ≡ true
  wrap_within = grind arith

  -- the wrap that is read there may stand in the file
  wrap_sound : IsSoundWrap L epoch nodes (wrap_at L bs at)
  wrap_sound = record {
    opener_range = (grind arith, grind arith);
    opener_epoch = (grind arith, grind arith);
    content_listed = in_contains nodes (byte_at bs (at + 5)) (listed_in nodes (byte_at bs (at + 5)) wrap_listed);
    opener_within = within_is (byte_at bs at) (byte_at bs (at + 5)) wrap_within;
    own_key_earlier = λ q. grind arith;
    sealed_bytes = part_sized L (at + 6) (length bs) bs (omega (arith, wrap_ends L epoch nodes bs at e)) (refl, hb);
  }

module _ (L epoch : ℕ) (nodes bs : List ℕ) (hb : IsBytes bs) where
  -- each of some wraps without fault may stand in the file
  wraps_sound : (at k : ℕ) → fault_in bs (wraps_fields L epoch nodes bs at k) ≡ None → (w : WrappedKey) → In w (wraps_from L bs at k) →
      IsSoundWrap L epoch nodes w
  wraps_sound at zero e w i = absurd i
  wraps_sound at (suc k) e w (inl q) =
      let here = wrap_sound L epoch nodes bs hb at (wraps_pass L epoch nodes bs at k e).0 in
      subst (λ (v : WrappedKey). IsSoundWrap L epoch nodes v) (sym q) here
  wraps_sound at (suc k) e w (inr i) = wraps_sound (at + (6 + L)) k (wraps_pass L epoch nodes bs at k e).1 w i

-- bytes without fault are what a sound file of that kind is written as
pub accepted_was_written : (kind L : ℕ) (bs : List ℕ) → 1 ≤ kind → IsBytes bs → layout_fault kind L bs ≡ None → WasWritten kind L bs
accepted_was_written kind L bs some hb e =
    let a = none_both _ _ (sym (at_values kind L bs _ _ _ refl refl refl) ∙ e) in
    let b = none_both _ _ a.1 in
    let d = none_both _ _ b.1 in
    let h = faultless_head kind bs a.0 in
    let at = 10 + byte_at bs 7 in
    record {
      sound = record {
        kind_range = (omega (arith, h.third, some), omega (arith, at_byte bs 2 hb));
        epoch_range = h.epoch;
        nodes_fall = nodes_fall bs 8 128 (byte_at bs 7) h.nodes.0 b.0;
        few_wraps = subst (λ (n : ℕ). n ≤ 896) (sym (wraps_many L bs at (wrap_count bs))) (count_ends bs (8 + byte_at bs 7) d.0).1;
        each_wrap = λ w i.
            wraps_sound L (be_number4 bs 3) (nodes_of bs) bs hb at (wrap_count bs) d.1 w (contains_in _ w i);
      };
      same_kind = h.third;
      was_written = rewritten L bs hb h.first h.second (wraps_end L (be_number4 bs 3) (nodes_of bs) bs at (wrap_count bs) d.1);
    }
