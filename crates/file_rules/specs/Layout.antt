-- The fields of a rekey file in byte order, and when each is right. A wrap has L sealed bytes.
use Rattle.std.specs.Prelude.{ℕ, zero, suc, ◌+◌, Bool, true, not, ◌&&◌, ◌||◌, ◌==◌, nat_eq, nat_le}
use Rattle.std.specs.Prelude.{nat_lt, List, [], ◌∷◌, ◌++◌, length, take, drop, Option, is_some}
use Rattle.std.specs.List.{list_any}
use Rattle.byte_strings.specs.Numbers.{byte_at, be_number2, be_number4}
use Rattle.keys.specs.declared.KeyName.{KeyName}
use Rattle.keys.specs.declared.limits.TheConstants.{LAST_EPOCH}
use Rattle.keys.specs.Names.{key_name}
use Rattle.tree.specs.declared.limits.TheConstants.{MOST_PAIRS}
use Rattle.tree.specs.Tree.{is_within}
use Rattle.file_rules.specs.Fields.{FileField, file_field, fault_in}
use Rattle.std.specs.Int.{is_in_range}

-- a value that must not vary
abbrev pub is_exactly : ℕ → ℕ → Bool
is_exactly wanted v = is_in_range wanted wanted v

-- 4B and 01, the kind of the wrap in use, the epoch; and the number of changed nodes
abbrev pub head_fields : ℕ → List ℕ → List FileField
head_fields kind bs =
    file_field 0 1 (is_exactly 0x4B (byte_at bs 0))
    ∷ file_field 1 1 (is_exactly 0x01 (byte_at bs 1))
    ∷ file_field 2 1 (is_exactly kind (byte_at bs 2))
    ∷ file_field 3 4 (is_in_range 1 LAST_EPOCH (be_number4 bs 3))
    ∷ file_field 7 1 (is_in_range 1 127 (byte_at bs 7))
    ∷ []

-- a changed node: an inner node below the one before it, and if none is left after it, node 1
abbrev pub is_valid_node : ℕ → ℕ → ℕ → Bool
is_valid_node before left v =
    is_in_range 1 127 v && (nat_lt v before && (nat_lt 0 left || v == 1))

-- so many changed nodes, from a place on; each is below the one before it
abbrev pub node_fields : List ℕ → ℕ → ℕ → ℕ → List FileField
node_fields bs at before zero = []
node_fields bs at before (suc left) =
    file_field at 1 (is_valid_node before left (byte_at bs at))
    ∷ node_fields bs (at + 1) (byte_at bs at) left

-- the number of wraps, which stands at a place
abbrev pub count_fields : List ℕ → ℕ → List FileField
count_fields bs at = file_field at 2 (nat_le (be_number2 bs at) MOST_PAIRS) ∷ []

-- a node is one of the changed nodes
abbrev pub lists : List ℕ → ℕ → Bool
lists nodes v = list_any (λ n. nat_eq n v) nodes

-- the content is one of the changed nodes, the opener is the content or beneath it, and if it is
-- the content, its key was made in an earlier epoch
abbrev pub is_valid_content : ℕ → List ℕ → KeyName → ℕ → Bool
is_valid_content epoch nodes opener content =
    lists nodes content
    && (is_within opener.node content
    && (not (opener.node == content) || nat_lt opener.epoch epoch))

-- the opener that stands at a place: its node, and the epoch in which its key was made
abbrev pub opener_at : List ℕ → ℕ → KeyName
opener_at bs at = key_name (byte_at bs at) (be_number4 bs (at + 1))

-- a wrap, from a place on: the opener's node and epoch, the content, and L sealed bytes
abbrev pub wrap_fields : ℕ → ℕ → List ℕ → List ℕ → ℕ → List FileField
wrap_fields L epoch nodes bs at =
    file_field at 1 (is_in_range 1 255 (byte_at bs at))
    ∷ file_field (at + 1) 4 (is_in_range 1 epoch (be_number4 bs (at + 1)))
    ∷ file_field (at + 5) 1 (is_valid_content epoch nodes (opener_at bs at) (byte_at bs (at + 5)))
    ∷ file_field (at + 6) L true
    ∷ []

-- so many wraps, from a place on, and then the end
abbrev pub wraps_fields : ℕ → ℕ → List ℕ → List ℕ → ℕ → ℕ → List FileField
wraps_fields L epoch nodes bs at zero = file_field at 0 (nat_le (length bs) at) ∷ []
wraps_fields L epoch nodes bs at (suc left) =
    wrap_fields L epoch nodes bs at ++ wraps_fields L epoch nodes bs (at + (6 + L)) left

-- the changed nodes: as many as byte 7 says, from byte 8 on
abbrev pub nodes_of : List ℕ → List ℕ
nodes_of bs = take (byte_at bs 7) (drop 8 bs)

-- how many wraps there are, by the number behind the changed nodes
abbrev pub wrap_count : List ℕ → ℕ
wrap_count bs = be_number2 bs (8 + byte_at bs 7)

-- all fields of a file, whose wraps are of that kind
abbrev pub file_fields : ℕ → ℕ → List ℕ → List FileField
file_fields kind L bs =
    head_fields kind bs
    ++ (node_fields bs 8 128 (byte_at bs 7)
    ++ (count_fields bs (8 + byte_at bs 7)
    ++ wraps_fields L (be_number4 bs 3) (nodes_of bs) bs (10 + byte_at bs 7) (wrap_count bs)))

-- the place of a file's first fault
unfoldable pub layout_fault : ℕ → ℕ → List ℕ → Option ℕ
layout_fault kind L bs = fault_in bs (file_fields kind L bs)

-- the file has no fault, at the kind that it names
unfoldable pub is_rekey_file : ℕ → List ℕ → Bool
is_rekey_file L bs = not (is_some (layout_fault (byte_at bs 2) L bs))
