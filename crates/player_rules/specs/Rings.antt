-- A ring: 288 bytes, eight entries of 36. Entry k, at byte 36k, is the epoch and the key of the
-- node that k halvings of the leaf give.
use Rattle.std.specs.Prelude.{ℕ, ◌+◌, ◌*◌, Bool, List, ◌++◌, map, flat_map, length, ◌==◌}
use Rattle.std.specs.List.{range_with_len}
use Rattle.byte_strings.specs.Strings.{part}
use Rattle.byte_strings.specs.Numbers.{be_bytes4, be_number4}
use Rattle.keys.specs.declared.NodeKey.{NodeKey}
use Rattle.keys.specs.Names.{Keys}
use Rattle.tree.specs.Tree.{ancestor}
use Rattle.player_rules.specs.declared.limits.TheConstants.{RING_BYTES}

-- are these as many bytes as a ring has? Any bytes of that length are a ring
abbrev pub is_ring : List ℕ → Bool
is_ring ring = length ring == RING_BYTES

-- the entry that stands at byte 36k: the epoch in four bytes, and the key in 32
abbrev pub entry_at : List ℕ → ℕ → NodeKey
entry_at ring k = record { made = be_number4 ring (36 * k); key = part 32 (36 * k + 4) ring }

-- the entries, from the leaf's to the root's
unfoldable pub entries : List ℕ → List NodeKey
entries ring = map (entry_at ring) (range_with_len 0 8)

-- the bytes of an entry: the epoch, and the key behind it
abbrev pub entry_bytes : NodeKey → List ℕ
entry_bytes entry = be_bytes4 entry.made ++ entry.key

-- the ring with these entries
abbrev pub ring_bytes : List NodeKey → List ℕ
ring_bytes entries = flat_map entry_bytes entries

-- the entries of a ring that holds the keys of all nodes from the leaf to the root
unfoldable pub path_entries : Keys → ℕ → List NodeKey
path_entries keys leaf = map (λ k. keys (ancestor k leaf)) (range_with_len 0 8)
