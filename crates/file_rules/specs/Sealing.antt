-- The file of a change: each pair of a plan becomes a wrap. The former keys are those before the
-- change, the present keys those after it.
use Rattle.std.specs.Prelude.{ℕ, List, map}
use Rattle.wrap.specs.Meaning.{Sealing}
use Rattle.tree.specs.declared.types.Opener.{Opener}
use Rattle.tree.specs.declared.types.Opener.TheVariants.{Present, Former}
use Rattle.tree.specs.declared.types.Pair.{Pair}
use Rattle.keys.specs.declared.KeyName.{KeyName}
use Rattle.keys.specs.declared.NodeKey.{NodeKey}
use Rattle.keys.specs.Names.{Keys, key_name, wrap_name}
use Rattle.file_rules.specs.Files.{WrappedKey, Rekey}

-- the node of an opener
abbrev pub opener_node : Opener → ℕ
opener_node (Present o) = o
opener_node (Former o) = o

-- a present opener goes by the keys after the change, a former one by those before it
abbrev pub opener_key : Keys → Keys → Opener → NodeKey
opener_key former present (Present o) = present o
opener_key former present (Former o) = former o

-- its node, and the epoch in which its key was made
abbrev pub opener_name : Keys → Keys → Opener → KeyName
opener_name former present o = key_name (opener_node o) (opener_key former present o).made

-- the wrap of a pair in a file of that epoch: the content's new key, sealed under the opener's key
-- and the names of both
abbrev pub pair_wrap : Sealing → ℕ → Keys → Keys → Pair → WrappedKey
pair_wrap seals epoch former present p = record {
  opener = opener_name former present p.opener;
  content = p.content;
  sealed_key =
      seals (opener_key former present p.opener).key
      (wrap_name (opener_name former present p.opener) (key_name p.content epoch))
      (present p.content).key;
}

-- the file of a plan: its changed nodes, and a wrap for each pair, in plan order
abbrev pub rekey_of : ℕ → Sealing → ℕ → List ℕ → List Pair → Keys → Keys → Rekey
rekey_of kind seals epoch nodes plan former present = record {
  kind = kind;
  epoch = epoch;
  nodes = nodes;
  wraps = map (pair_wrap seals epoch former present) plan;
}
