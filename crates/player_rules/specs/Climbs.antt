-- The way up through a file, from the leaf's parent to the root, as the code goes.
use Rattle.std.specs.Prelude.{ℕ, if◌then◌else◌, List, [], ◌∷◌, length, Some, None, Ok, Err, Option}
use Rattle.std.specs.Prelude.{◌==◌, slice_set, slice_index_or}
use Rattle.std.specs.List.{range_with_len}
use Rattle.refusal.specs.Refusals.{Verdict, refusal}
use Rattle.keys.specs.declared.NodeKey.{NodeKey}
use Rattle.keys.specs.Names.{key_name, keys_in, wrap_name}
use Rattle.tree.specs.Tree.{ancestor}
use Rattle.file_rules.specs.Files.{WrappedKey, Rekey}
use Rattle.file_rules.specs.Layout.{lists}
use Rattle.wrap.specs.Meaning.{WrapMeaning}
use Rattle.player_rules.specs.Searches.{OpenableWrap, openable_wrap}

-- what sealed bytes open to, by a wrap of a file of that epoch: the wrap's name is its opener's and
-- its content's
abbrev pub opened_bytes : WrapMeaning → ℕ → List ℕ → WrappedKey → Option (List ℕ)
opened_bytes w epoch key x =
    w.opens key (wrap_name x.opener (key_name x.content epoch)) x.sealed_key

-- what a wrap of a file of that epoch opens to under a key; sealed bytes of another length than the
-- wrap's do not open
abbrev pub wrap_content : WrapMeaning → ℕ → List ℕ → WrappedKey → Option (List ℕ)
wrap_content w epoch key x =
    if length x.sealed_key == w.length then opened_bytes w epoch key x else None

-- the content becomes entry k, made in the file's epoch; if there is none, 18 with the wrap's index
-- and that epoch
abbrev pub ring_with_key : ℕ → ℕ → ℕ → List NodeKey → Option (List ℕ) → Verdict (List NodeKey)
ring_with_key epoch k index ring (Some key) =
    Ok (slice_set ring k (record { made = epoch; key = key }))
ring_with_key epoch k index ring None = refusal 18 (index ∷ epoch ∷ [])

-- what an index behind the last wrap stands for: a wrap with no sealed bytes, which never opens
abbrev pub no_wrap : WrappedKey
no_wrap = record { opener = key_name 0 0; content = 0; sealed_key = [] }

-- the wrap of that index
abbrev pub wrap_by_index : Rekey → ℕ → WrappedKey
wrap_by_index f index = slice_index_or f.wraps index no_wrap

-- the wrap that was found is opened by its entry, and its content becomes entry k; if none was
-- found, 19 with the node
abbrev pub ring_with_found : WrapMeaning → Rekey → ℕ → ℕ → List NodeKey → Option OpenableWrap →
    Verdict (List NodeKey)
ring_with_found w f node k ring (Some it) =
    ring_with_key f.epoch k it.wrap ring
    (wrap_content w f.epoch (keys_in ring it.entry).key (wrap_by_index f it.wrap))
ring_with_found w f node k ring None = refusal 19 (node ∷ [])

-- the ring after the node k halvings up, whose new key becomes entry k if the node is listed
unfoldable pub ring_after_level : WrapMeaning → Rekey → ℕ → ℕ → List NodeKey →
    Verdict (List NodeKey)
ring_after_level w f leaf k ring =
    if lists f.nodes (ancestor k leaf)
    then ring_with_found w f (ancestor k leaf) k ring
    (openable_wrap ring leaf (ancestor k leaf) 0 f.wraps)
    else Ok ring

-- Rust's `and_then`: what follows a verdict that is no refusal
abbrev pub verdict_and_then : {A B : Type 0} → Verdict A → (A → Verdict B) → Verdict B
verdict_and_then (Ok a) next = next a
verdict_and_then (Err f) next = Err f

-- the ring after these levels, one after the other, each with the ring as updated so far
abbrev pub ring_after_levels : WrapMeaning → Rekey → ℕ → List ℕ → List NodeKey →
    Verdict (List NodeKey)
ring_after_levels w f leaf [] ring = Ok ring
ring_after_levels w f leaf (k ∷ ks) ring =
    verdict_and_then (ring_after_level w f leaf k ring) (ring_after_levels w f leaf ks)

-- the ring after the whole way: from the leaf's parent, one halving up, to the root, seven up
unfoldable pub ring_after_file : WrapMeaning → Rekey → ℕ → List NodeKey → Verdict (List NodeKey)
ring_after_file w f leaf ring = ring_after_levels w f leaf (range_with_len 1 7) ring
