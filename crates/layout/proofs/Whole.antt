-- The whole check, from its parts: head, changed nodes, number of wraps, wraps.
use Rattle.std.proofs.Common.{◌≡◌, ℕ, ◌+◌, true, not, List, take, drop, is_some, OnOk, None, Ok, Err, Option, Result, sym, refl, ap, ◌∙◌}
use Rattle.std.specs.Option.{option_or}
use Rattle.byte_strings.specs.Numbers.{byte_at, be_number2, be_number4}
use Rattle.file_rules.specs.Fields.{fault_in}
use Rattle.file_rules.specs.Layout.{head_fields, node_fields, count_fields, wraps_fields, layout_fault, is_rekey_file}
use Rattle.layout.specs.declared.fault.LayoutFault.{LayoutFault}
use Rattle.layout.specs.Reads.{value_or_fault}
use Rattle.file_rules.proofs.Faults.{none_both, at_values}
use Rattle.file_rules.proofs.Faultless.{faultless_head}
use Rattle.layout.proofs.Parts.{passed, stopped, goes_on}

-- what the check of a file answers
abbrev pub file_answer : ℕ → ℕ → List ℕ → Result (Unit {0}) LayoutFault
file_answer kind L bs = value_or_fault (layout_fault kind L bs) tt

module _ (kind L : ℕ) (bs : List ℕ) (epoch nodes : ℕ) where
  -- what the check of the head answers
  abbrev pub head_answer : Result (ℕ × ℕ) LayoutFault
  head_answer = value_or_fault {A = ℕ × ℕ} (fault_in bs (head_fields kind bs)) (be_number4 bs 3, byte_at bs 7)

  -- what the check of the nodes answers
  abbrev pub nodes_answer : Result (Unit {0}) LayoutFault
  nodes_answer = value_or_fault (fault_in bs (node_fields bs 8 128 nodes)) tt

  -- what the check of the number of wraps answers
  abbrev pub count_answer : Result ℕ LayoutFault
  count_answer = value_or_fault (fault_in bs (count_fields bs (8 + nodes))) (be_number2 bs (8 + nodes))

  -- what the check of so many wraps answers
  abbrev pub wraps_answer : ℕ → Result (Unit {0}) LayoutFault
  wraps_answer wraps = value_or_fault (fault_in bs (wraps_fields L epoch (take nodes (drop 8 bs)) bs (10 + nodes) wraps)) tt

  -- the fault of what follows the head, once the head is passed
  fault_after_head : ℕ → Option ℕ
  fault_after_head wraps =
      option_or (fault_in bs (node_fields bs 8 128 nodes))
      (option_or (fault_in bs (count_fields bs (8 + nodes)))
      (fault_in bs (wraps_fields L epoch (take nodes (drop 8 bs)) bs (10 + nodes) wraps)))

  -- once the head is passed, the fault of what follows is the file's
  after_head : (wraps : ℕ) → head_answer ≡ Ok (epoch, nodes) → be_number2 bs (8 + nodes) ≡ wraps → fault_after_head wraps ≡ layout_fault kind L bs
  unfolding fault_after_head
  after_head wraps h w =
      let v = (passed _ _ _ h).1 in
      goes_on _ _ _ _ _ h (at_values kind L bs epoch nodes wraps (ap (λ p. p.0) v) (ap (λ p. p.1) v) w)

  -- where the head is refused, its fault is the file's
  pub head_stops : (y : LayoutFault) → head_answer ≡ Err y → Err y ≡ file_answer kind L bs
  head_stops y h = stopped _ _ _ _ _ h ∙ ap (λ o. value_or_fault o tt) (sym (at_values kind L bs _ _ _ refl refl refl))

  -- where the nodes are refused after a head that is passed, their fault is the file's
  pub nodes_stop : (y : LayoutFault) → head_answer ≡ Ok (epoch, nodes) → nodes_answer ≡ Err y → Err y ≡ file_answer kind L bs
  unfolding fault_after_head
  nodes_stop y h n = stopped _ _ _ _ _ n ∙ ap (λ o. value_or_fault o tt) (after_head _ h refl)

  -- where the number of wraps is the first part that is refused, its fault is the file's
  pub count_stops : (y : LayoutFault) → head_answer ≡ Ok (epoch, nodes) → nodes_answer ≡ Ok tt → count_answer ≡ Err y → Err y ≡ file_answer kind L bs
  unfolding fault_after_head
  count_stops y h n k = stopped _ _ _ _ _ k ∙ ap (λ o. value_or_fault o tt) (goes_on _ _ _ _ _ n (sym (after_head _ h refl)))

  -- where all parts before them are passed, the wraps decide
  pub wraps_decide : (wraps : ℕ) → head_answer ≡ Ok (epoch, nodes) → nodes_answer ≡ Ok tt → count_answer ≡ Ok wraps → wraps_answer wraps ≡ file_answer kind L bs
  unfolding fault_after_head
  wraps_decide wraps h n k = ap (λ o. value_or_fault o tt) (goes_on _ _ _ _ _ k (sym (goes_on _ _ _ _ _ n (sym (after_head wraps h (passed _ _ _ k).1)))))

-- a file without fault at some kind is a rekey file, since it names that kind
pub accepts : (kind L : ℕ) (bs : List ℕ) → layout_fault kind L bs ≡ None → is_rekey_file L bs ≡ true
unfolding is_rekey_file
accepts kind L bs e =
    let head = faultless_head kind bs (none_both _ _ (sym (at_values kind L bs _ _ _ refl refl refl) ∙ e)).0 in
    ap (λ o. not (is_some o)) (ap (λ k. layout_fault k L bs) head.third ∙ e)

-- where the check answers that there is no fault, the bytes are a rekey file
pub accepts_if_ok : (kind L : ℕ) (bs : List ℕ) (r : Result (Unit {0}) LayoutFault) → r ≡ file_answer kind L bs → OnOk r (is_rekey_file L bs ≡ true)
accepts_if_ok kind L bs (Ok u) e = accepts kind L bs (passed (layout_fault kind L bs) tt u (sym e)).0
accepts_if_ok kind L bs (Err y) e = tt
