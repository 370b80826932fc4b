-- A key's name is its node and the epoch in which the key was made. A wrap's name is that of its
-- opener and that of its content.
use Rattle.std.specs.Prelude.{ℕ, List, ◌∷◌, ◌++◌, replicate, slice_index_or}
use Rattle.byte_strings.specs.Numbers.{be_bytes4}
use Rattle.keys.specs.declared.KeyName.{KeyName}
use Rattle.keys.specs.declared.NodeKey.{NodeKey}

-- the name of the node's key that was made in the epoch
abbrev pub key_name : ℕ → ℕ → KeyName
key_name node epoch = record { node = node; epoch = epoch }

-- the node in one byte, the epoch in four with the highest first
abbrev pub name_bytes : KeyName → List ℕ
name_bytes name = name.node ∷ be_bytes4 name.epoch

-- the ten bytes under which a content's key is sealed: the opener's name, then the content's
abbrev pub wrap_name : KeyName → KeyName → List ℕ
wrap_name opener content = name_bytes opener ++ name_bytes content

-- the keys of all nodes at one time
abbrev pub Keys : Type 0
Keys = ℕ → NodeKey

-- a key that was never made: epoch 0, which no site has, and 32 zeros
abbrev pub unmade_key : NodeKey
unmade_key = record { made = 0; key = replicate 32 0 }

-- the keys in a table, by the number of the node
abbrev pub keys_in : List NodeKey → Keys
keys_in table node = slice_index_or table node unmade_key
