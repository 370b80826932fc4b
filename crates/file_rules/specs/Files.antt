-- A rekey file as a value, and its bytes.
use Rattle.std.specs.Prelude.{ℕ, ◌+◌, ◌*◌, List, ◌∷◌, ◌++◌, length}
use Rattle.std.specs.List.{flat_map}
use Rattle.byte_strings.specs.Numbers.{be_bytes2, be_bytes4}
use Rattle.keys.specs.declared.KeyName.{KeyName}
use Rattle.keys.specs.Names.{name_bytes}

-- a wrap: the key that opens it, the node whose new key it holds, and the sealed bytes
pub record WrappedKey : Type 0 where
  pub opener : KeyName
  pub content : ℕ
  pub sealed_key : List ℕ

-- the kind of its wraps, its epoch, the changed nodes and the wraps; the new key of each wrap was
-- made in the file's epoch
pub record Rekey : Type 0 where
  pub kind : ℕ
  pub epoch : ℕ
  pub nodes : List ℕ
  pub wraps : List WrappedKey

-- the head, 7 bytes: the letter K, version 1, the kind of the wraps, and the epoch
abbrev pub head_bytes : ℕ → ℕ → List ℕ
head_bytes kind epoch = 0x4B ∷ 0x01 ∷ kind ∷ be_bytes4 epoch

-- section 1: how many nodes there are, and the nodes
abbrev pub nodes_bytes : List ℕ → List ℕ
nodes_bytes nodes = length nodes ∷ nodes

-- a wrap: the opener's node and epoch, the content's node, and the sealed bytes
abbrev pub wrap_bytes : WrappedKey → List ℕ
wrap_bytes w = name_bytes w.opener ++ (w.content ∷ w.sealed_key)

-- section 2: how many wraps there are, and the wraps
abbrev pub wraps_bytes : List WrappedKey → List ℕ
wraps_bytes wraps = be_bytes2 (length wraps) ++ flat_map wrap_bytes wraps

-- the bytes of a file: the head and both sections
abbrev pub file_bytes : Rekey → List ℕ
file_bytes f = head_bytes f.kind f.epoch ++ (nodes_bytes f.nodes ++ wraps_bytes f.wraps)

-- how many bytes a file of so many nodes and wraps has, with L sealed bytes to a wrap
abbrev pub file_size : ℕ → ℕ → ℕ → ℕ
file_size L nodes wraps = 10 + nodes + wraps * (6 + L)
