-- The writing of an entry over the bytes of a ring.
use Rattle.std.specs.Prelude.{ℕ, ◌+◌, ◌*◌, List}
use Rattle.byte_strings.specs.Strings.{overlay}
use Rattle.byte_strings.specs.Numbers.{be_bytes4}
use Rattle.keys.specs.declared.NodeKey.{NodeKey}

-- the bytes of a ring with entry k written over them, at byte 36k: its epoch, and its key behind it
abbrev pub with_entry : List ℕ → ℕ → NodeKey → List ℕ
with_entry bytes k entry =
    overlay (overlay bytes (36 * k) (be_bytes4 entry.made)) (36 * k + 4) entry.key
