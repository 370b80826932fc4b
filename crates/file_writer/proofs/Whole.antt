-- The parts of a file, one behind the other, are the file.
use Rattle.std.proofs.Common.{◌≡◌, ℕ, List, ◌++◌, map, length, sym, ap, ◌∙◌, append_assoc}
use Rattle.std.proofs.lemmas.List.{length-map}
use Rattle.std.specs.List.{flat_map}
use Rattle.byte_strings.specs.Numbers.{be_bytes2}
use Rattle.file_rules.specs.Files.{head_bytes, nodes_bytes, wrap_bytes, file_bytes}
use Rattle.wrap.specs.Meaning.{WrapMeaning}
use Rattle.file_writer.specs.declared.change.Change.{Change}
use Rattle.file_writer.specs.Calls.{pair_wrap_in, change_file}

-- the front, and behind it the wraps of the plan
pub whole : (w : WrapMeaning) (c : Change) →
    (head_bytes w.kind c.epoch ++ (nodes_bytes c.nodes.now ++ be_bytes2 (length c.plan.now)))
    ++ flat_map wrap_bytes (map (pair_wrap_in w.seals c) c.plan.now) ≡ file_bytes (change_file w c)
whole w c =
    let head : List ℕ = head_bytes w.kind c.epoch in
    let nodes : List ℕ = nodes_bytes c.nodes.now in
    let wraps : List ℕ = flat_map wrap_bytes (map (pair_wrap_in w.seals c) c.plan.now) in
    append_assoc head (nodes ++ be_bytes2 (length c.plan.now)) wraps
    ∙ ap (λ (l : List ℕ). head ++ l) (append_assoc nodes (be_bytes2 (length c.plan.now)) wraps)
    ∙ ap (λ (n : ℕ). head ++ (nodes ++ (be_bytes2 n ++ wraps))) (sym (length-map c.plan.now (pair_wrap_in w.seals c)))
