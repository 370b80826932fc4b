-- The first fault of fields that stand in parts.
use Rattle.std.proofs.Common.{◌≡◌, ℕ, ◌+◌, true, not, List, [], ◌∷◌, ◌++◌, length, take, drop, is_some, Some, None, Option, refl, ap, ◌∙◌, arith}
use Rattle.std.specs.Option.{option_or}
use Rattle.byte_strings.specs.Numbers.{byte_at, be_number2, be_number4}
use Rattle.file_rules.specs.Fields.{FileField, fault_place, fault_in}
use Rattle.file_rules.specs.Layout.{head_fields, node_fields, count_fields, wraps_fields, nodes_of, wrap_count, layout_fault}

-- of two parts, the fault of the first comes first
pub fault_place-append : (len : ℕ) (xs ys : List FileField) → fault_place len (xs ++ ys) ≡ option_or (fault_place len xs) (fault_place len ys)
fault_place-append len [] ys = refl
fault_place-append len (x ∷ xs) ys = let more = fault_place-append len xs ys in grind arith

-- parts that have no fault together have none each
pub none_both : (a b : Option ℕ) → option_or a b ≡ None → (a ≡ None) × (b ≡ None)
none_both None b e = (refl, e)
none_both (Some p) b e = let z : ◌≡◌ {A = ℕ} 0 1 = cc in absurd (omega arith)

-- where no place is given, there is no fault
pub is_none : (o : Option ℕ) → not (is_some o) ≡ true → o ≡ None
is_none None e = refl
is_none (Some p) e = let z : ◌≡◌ {A = ℕ} 0 1 = grind arith in absurd (omega arith)

-- the parts of a file, at the values that the parts before them gave
abbrev pub sections_fault : ℕ → ℕ → List ℕ → ℕ → ℕ → ℕ → Option ℕ
sections_fault kind L bs epoch nodes wraps =
    option_or (fault_in bs (head_fields kind bs))
    (option_or (fault_in bs (node_fields bs 8 128 nodes))
    (option_or (fault_in bs (count_fields bs (8 + nodes)))
    (fault_in bs (wraps_fields L epoch (take nodes (drop 8 bs)) bs (10 + nodes) wraps))))

-- a file's fault is the first one of its parts
in_parts : (kind L : ℕ) (bs : List ℕ) → layout_fault kind L bs ≡ sections_fault kind L bs (be_number4 bs 3) (byte_at bs 7) (wrap_count bs)
unfolding layout_fault
in_parts kind L bs =
    let len = length bs in
    let head = head_fields kind bs in
    let nodes = node_fields bs 8 128 (byte_at bs 7) in
    let count = count_fields bs (8 + byte_at bs 7) in
    let wraps = wraps_fields L (be_number4 bs 3) (nodes_of bs) bs (10 + byte_at bs 7) (wrap_count bs) in
    fault_place-append len head (nodes ++ (count ++ wraps))
    ∙ ap (option_or (fault_place len head))
    (fault_place-append len nodes (count ++ wraps)
    ∙ ap (option_or (fault_place len nodes)) (fault_place-append len count wraps))

-- the same, where the epoch and both counts have known values
pub at_values : (kind L : ℕ) (bs : List ℕ) (epoch nodes wraps : ℕ) → be_number4 bs 3 ≡ epoch → byte_at bs 7 ≡ nodes →
    be_number2 bs (8 + nodes) ≡ wraps → layout_fault kind L bs ≡ sections_fault kind L bs epoch nodes wraps
at_values kind L bs epoch nodes wraps e n w =
    in_parts kind L bs
    ∙ ap (λ x. sections_fault kind L bs x (byte_at bs 7) (wrap_count bs)) e
    ∙ ap (λ x. sections_fault kind L bs epoch x (be_number2 bs (8 + x))) n
    ∙ ap (λ x. sections_fault kind L bs epoch nodes x) w
