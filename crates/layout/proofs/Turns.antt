-- What one turn of a loop of the check reads.
use Rattle.std.proofs.Common.{◌≡◌, ℕ, zero, suc, ◌+◌, ◌-◌, ◌<◌, List, ◌∷◌, length, sym, ap, ◌∙◌, arith}
use Rattle.std.specs.Option.{option_or}
use Rattle.byte_strings.specs.Numbers.{byte_at}
use Rattle.file_rules.specs.Fields.{file_field, fault_in}
use Rattle.file_rules.specs.Layout.{is_valid_node, node_fields, wrap_fields, wraps_fields}
use Rattle.file_rules.proofs.Faults.{fault_place-append}

-- of the changed nodes that are left, the first one and the rest
pub nodes_more : (bs : List ℕ) (at before left : ℕ) → 0 < left →
    fault_in bs (node_fields bs at before left) ≡
    fault_in bs (file_field at 1 (is_valid_node before (left - 1) (byte_at bs at)) ∷ node_fields bs (at + 1) (byte_at bs at) (left - 1))
nodes_more bs at before zero h = absurd (omega arith)
nodes_more bs at before (suc left) h =
    let e : suc left - 1 ≡ left = omega arith in
    ap (λ k. fault_in bs (file_field at 1 (is_valid_node before k (byte_at bs at)) ∷ node_fields bs (at + 1) (byte_at bs at) k)) (sym e)

-- of the wraps that are left, the first one and the rest
pub wraps_more : (L epoch : ℕ) (nodes bs : List ℕ) (at count i : ℕ) → i < count →
    fault_in bs (wraps_fields L epoch nodes bs at (count - i)) ≡
    option_or (fault_in bs (wrap_fields L epoch nodes bs at))
    (fault_in bs (wraps_fields L epoch nodes bs (at + (6 + L)) (count - (i + 1))))
wraps_more L epoch nodes bs at count i h =
    let e : count - i ≡ suc (count - (i + 1)) = omega arith in
    ap (λ k. fault_in bs (wraps_fields L epoch nodes bs at k)) e
    ∙ fault_place-append (length bs) (wrap_fields L epoch nodes bs at) (wraps_fields L epoch nodes bs (at + (6 + L)) (count - (i + 1)))
