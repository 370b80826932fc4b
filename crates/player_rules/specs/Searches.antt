-- Which wrap of a file a player opens for a node, and by which entry of its ring.
use Rattle.std.specs.Prelude.{ℕ, ◌+◌, Bool, if◌then◌else◌, ◌&&◌, List, [], ◌∷◌, Some, None, Option}
use Rattle.std.specs.Prelude.{position, ◌==◌}
use Rattle.std.specs.List.{range_with_len}
use Rattle.keys.specs.declared.KeyName.{KeyName}
use Rattle.keys.specs.declared.NodeKey.{NodeKey}
use Rattle.keys.specs.Names.{keys_in}
use Rattle.tree.specs.Tree.{ancestor}
use Rattle.file_rules.specs.Files.{WrappedKey}

-- a wrap of a file that a ring opens: the wrap's index from 0, and the ring's entry that opens it
pub record OpenableWrap : Type 0 where
  pub wrap : ℕ
  pub entry : ℕ

-- is entry k of the ring the opener, by node and epoch?
abbrev pub is_entry : List NodeKey → ℕ → KeyName → ℕ → Bool
is_entry ring leaf opener k =
    ancestor k leaf == opener.node && (keys_in ring k).made == opener.epoch

-- the first entry of the ring that is the opener
unfoldable pub entry_of : List NodeKey → ℕ → KeyName → Option ℕ
entry_of ring leaf opener = position (is_entry ring leaf opener) (range_with_len 0 8)

-- the entry that opens a wrap, if the wrap's content is the node's key
abbrev pub entry_for : List NodeKey → ℕ → ℕ → WrappedKey → Option ℕ
entry_for ring leaf node w = if w.content == node then entry_of ring leaf w.opener else None

-- the wrap of that index with the entry that opens it, or what is found among later wraps
abbrev pub wrap_or_later : ℕ → Option ℕ → Option OpenableWrap → Option OpenableWrap
wrap_or_later index (Some entry) later = Some (record { wrap = index; entry = entry })
wrap_or_later index None later = later

-- the first of these wraps whose content is the node's key and whose opener is in the ring; the
-- first wrap of the list has the given index
abbrev pub openable_wrap : List NodeKey → ℕ → ℕ → ℕ → List WrappedKey → Option OpenableWrap
openable_wrap ring leaf node index [] = None
openable_wrap ring leaf node index (w ∷ ws) =
    wrap_or_later index (entry_for ring leaf node w)
    (openable_wrap ring leaf node (index + 1) ws)
