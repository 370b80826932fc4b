-- The bytes of a sound file pass the check, and are read back as the file.
use Rattle.std.proofs.Common.{◌≡◌, ℕ, ◌+◌, ◌*◌, List, ◌++◌, length, take, drop, sym, refl, ap, ◌∙◌, None, lit<, arith}
use Rattle.std.specs.List.{flat_map}
use Rattle.std.specs.Option.{option_or}
use Rattle.std.proofs.lemmas.Bool.{le-leb}
use Rattle.std.proofs.lemmas.List.{take_at, drop_at, length-append}
use Rattle.byte_strings.specs.Numbers.{be_bytes2, byte_at, be_number2, be_number4}
use Rattle.byte_strings.specs.Strings.{IsBytes}
use Rattle.byte_strings.proofs.Parts.{append_bytes}
use Rattle.file_rules.specs.Fields.{fault_in}
use Rattle.tree.proofs.Members.{In, in_contains}
use Rattle.file_rules.specs.Files.{WrappedKey, Rekey, file_bytes, head_bytes, nodes_bytes, wrap_bytes, wraps_bytes, file_size}
use Rattle.file_rules.specs.Layout.{is_exactly, head_fields, node_fields, count_fields, wraps_fields, nodes_of, wrap_count, layout_fault}
use Rattle.std.specs.Int.{is_in_range}
use Rattle.file_rules.specs.Reading.{wraps_from, parsed_file}
use Rattle.file_rules.specs.Laws.{IsSoundWrap, IsSoundFile, RoundTrips}
use Rattle.file_rules.proofs.Faults.{at_values}
use Rattle.file_rules.proofs.Passing.{AllPass, pass_all}
use Rattle.file_rules.proofs.Places.{further, number2_at, number4_at, big2_back, big4_back, big2_bytes, big4_bytes}
use Rattle.file_rules.proofs.Falling.{falls_few, falls_node, falls_bytes, falls_pass}
use Rattle.file_rules.proofs.Wraps.{in_range, wraps_back, wraps_long, bytes_of_wraps}

module _ (L : ℕ) (f : Rekey) (s : IsSoundFile L f) where
  -- each wrap of the file may stand in it
  each_sound : (w : WrappedKey) → In w f.wraps → IsSoundWrap L f.epoch f.nodes w
  each_sound w i = s.each_wrap w (in_contains f.wraps w i)

  -- each number that is written is below 256
  all_bytes : IsBytes (file_bytes f)
  all_bytes =
      let many = falls_few 128 f.nodes s.nodes_fall in
      let of_nodes = falls_bytes 128 f.nodes (omega arith) s.nodes_fall in
      let head : IsBytes (head_bytes f.kind f.epoch) = (lit< tt, (lit< tt, (omega (arith, s.kind_range.1), big4_bytes f.epoch))) in
      let of_wraps = bytes_of_wraps L f.epoch f.nodes of_nodes f.wraps each_sound in
      append_bytes (head_bytes f.kind f.epoch) (nodes_bytes f.nodes ++ wraps_bytes f.wraps) head
      (append_bytes (nodes_bytes f.nodes) (wraps_bytes f.wraps) (omega arith, of_nodes)
      (append_bytes (be_bytes2 (length f.wraps)) (flat_map wrap_bytes f.wraps) (big2_bytes (length f.wraps)) of_wraps))

  -- there are as many bytes as so many nodes and wraps need
  all_long : length (file_bytes f) ≡ file_size L (length f.nodes) (length f.wraps)
  all_long = omega (arith, length-append f.nodes (wraps_bytes f.wraps), wraps_long L f.wraps (λ w i. (each_sound w i).sealed_bytes.0))

  module _ (bs : List ℕ) (e : bs ≡ file_bytes f) where
    -- the file's epoch is read
    epoch_there : be_number4 bs 3 ≡ f.epoch
    epoch_there = number4_at bs _ 3 (ap (drop 3) e) ∙ big4_back f.epoch (nodes_bytes f.nodes ++ wraps_bytes f.wraps) (omega (arith, s.epoch_range.1))

    -- the number of the file's changed nodes is read
    count_there : byte_at bs 7 ≡ length f.nodes
    count_there = ap (λ (l : List ℕ). byte_at l 7) e

    -- behind the changed nodes stands the section of the wraps
    after_nodes : drop (8 + length f.nodes) bs ≡ wraps_bytes f.wraps
    after_nodes = further bs _ 8 (ap (drop 8) e) (length f.nodes) ∙ drop_at f.nodes (wraps_bytes f.wraps) (length f.nodes) refl

    -- the number of the file's wraps is read
    wraps_there : be_number2 bs (8 + length f.nodes) ≡ length f.wraps
    wraps_there = number2_at bs _ (8 + length f.nodes) after_nodes ∙ big2_back (length f.wraps) (flat_map wrap_bytes f.wraps) (omega (arith, s.few_wraps))

    -- the file's changed nodes are read
    nodes_there : take (length f.nodes) (drop 8 bs) ≡ f.nodes
    nodes_there = ap (λ (l : List ℕ). take (length f.nodes) (drop 8 l)) e ∙ take_at f.nodes (wraps_bytes f.wraps) (length f.nodes) refl

    -- the last wrap ends where the bytes do
    long : 10 + length f.nodes + length f.wraps * (6 + L) ≡ length bs
    long = sym (ap (λ (l : List ℕ). length l) e ∙ all_long)

    -- the wraps pass, and the file's wraps are read
    wraps_read :
        AllPass (length bs) (wraps_fields L f.epoch f.nodes bs (10 + length f.nodes) (length f.wraps))
        × (wraps_from L bs (10 + length f.nodes) (length f.wraps) ≡ f.wraps)
    wraps_read =
        let at : 10 + length f.nodes ≡ 8 + length f.nodes + 2 = omega arith in
        wraps_back L f.epoch f.nodes s.epoch_range.1 (falls_node 128 f.nodes s.nodes_fall) bs (10 + length f.nodes) f.wraps each_sound
        (ap (λ p. drop p bs) at ∙ further bs _ (8 + length f.nodes) after_nodes 2) long

    -- the head passes
    head_passes : AllPass (length bs) (head_fields f.kind bs)
    head_passes =
        let few = falls_few 128 f.nodes s.nodes_fall in
        let all = long in
        let first = ap (λ (l : List ℕ). is_exactly 0x4B (byte_at l 0)) e in
        let second = ap (λ (l : List ℕ). is_exactly 0x01 (byte_at l 1)) e in
        let kind = ap (λ (l : List ℕ). is_exactly f.kind (byte_at l 2)) e ∙ in_range f.kind f.kind f.kind (omega arith) (omega arith) in
        let epoch = ap (is_in_range 1 1000000) epoch_there ∙ in_range 1 1000000 f.epoch s.epoch_range.0 s.epoch_range.1 in
        let nodes = ap (is_in_range 1 127) count_there ∙ in_range 1 127 (length f.nodes) few.0 (omega arith) in
        (omega arith, (first, (omega arith, (second, (omega arith, (kind, (omega arith, (epoch, (omega arith, (nodes, tt))))))))))

    -- the whole file has no fault
    passes : layout_fault f.kind L bs ≡ None
    passes =
        let all = long in
        let head = pass_all (length bs) (head_fields f.kind bs) head_passes in
        let nodes = pass_all (length bs) (node_fields bs 8 128 (length f.nodes))
        (falls_pass (length bs) bs 8 128 f.nodes (wraps_bytes f.wraps) (ap (drop 8) e) s.nodes_fall (omega arith) (omega arith)) in
        let few = le-leb (be_number2 bs (8 + length f.nodes)) 896 (omega (arith, wraps_there, s.few_wraps)) in
        let count = pass_all (length bs) (count_fields bs (8 + length f.nodes)) (omega arith, (few, tt)) in
        let wraps =
        ap (λ (l : List ℕ). fault_in bs (wraps_fields L f.epoch l bs (10 + length f.nodes) (length f.wraps))) nodes_there
        ∙ pass_all (length bs) (wraps_fields L f.epoch f.nodes bs (10 + length f.nodes) (length f.wraps)) wraps_read.0 in
        at_values f.kind L bs f.epoch (length f.nodes) (length f.wraps) epoch_there count_there wraps_there
        ∙ (λ i. option_or (head i) (option_or (nodes i) (option_or (count i) (wraps i))))

    -- what is read is the file
    same : parsed_file L bs ≡ f
    same =
        let kind : byte_at bs 2 ≡ f.kind = ap (λ (l : List ℕ). byte_at l 2) e in
        let nodes : nodes_of bs ≡ f.nodes = ap (λ n. take n (drop 8 bs)) count_there ∙ nodes_there in
        let wraps : wraps_from L bs (10 + byte_at bs 7) (wrap_count bs) ≡ f.wraps =
        ap (λ n. wraps_from L bs (10 + n) (be_number2 bs (8 + n))) count_there
        ∙ ap (λ k. wraps_from L bs (10 + length f.nodes) k) wraps_there
        ∙ wraps_read.1 in
        λ i. record { kind = kind i; epoch = epoch_there i; nodes = nodes i; wraps = wraps i }

  -- a sound file comes back from its bytes
  pub returned : RoundTrips L f
  returned = record { bytes = all_bytes; size = all_long; accepts = passes (file_bytes f) refl; reads_back = same (file_bytes f) refl }
