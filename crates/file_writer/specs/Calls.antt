-- The writing of a change's file: its checks in order, and what it leaves in the file buffer.
use Rattle.std.specs.Prelude.{ℕ, if◌then◌else◌, List, [], ◌∷◌, ◌++◌, length, drop, Ok, nat_lt}
use Rattle.refusal.specs.Refusals.{Verdict, refusal, new_or_old}
use Rattle.wrap.specs.Calls.{is_working_short}
use Rattle.wrap.specs.Meaning.{Sealing, WrapMeaning}
use Rattle.tree.specs.declared.types.Opener.{Opener}
use Rattle.tree.specs.declared.types.Pair.{Pair}
use Rattle.keys.specs.declared.KeyName.{KeyName}
use Rattle.keys.specs.declared.NodeKey.{NodeKey}
use Rattle.keys.specs.Names.{keys_in}
use Rattle.file_rules.specs.Files.{WrappedKey, Rekey, file_size}
use Rattle.file_rules.specs.Sealing.{opener_key, opener_name, pair_wrap, rekey_of}
use Rattle.file_writer.specs.declared.change.Change.{Change}

-- the key of an opener, from the tables of the change
abbrev pub opener_key_in : Change → Opener → NodeKey
opener_key_in c o = opener_key (keys_in c.former.now) (keys_in c.present.now) o

-- the name of that key
abbrev pub opener_name_in : Change → Opener → KeyName
opener_name_in c o = opener_name (keys_in c.former.now) (keys_in c.present.now) o

-- the wrap of a pair in the file of a change, by a wrap that seals so
abbrev pub pair_wrap_in : Sealing → Change → Pair → WrappedKey
pair_wrap_in seals c p = pair_wrap seals c.epoch (keys_in c.former.now) (keys_in c.present.now) p

-- the file of a change, by a wrap of that meaning
abbrev pub change_file : WrapMeaning → Change → Rekey
change_file w c =
    rekey_of w.kind w.seals c.epoch c.nodes.now c.plan.now
    (keys_in c.former.now) (keys_in c.present.now)

-- how many bytes it has, with L sealed bytes to a wrap
abbrev pub change_size : ℕ → Change → ℕ
change_size L c = file_size L (length c.nodes.now) (length c.plan.now)

-- what the writing of so many bytes reports: too few working bytes (9), a buffer without room for
-- the file (12, with the size of the file), or the size of the file
abbrev pub write_verdict : ℕ → List ℕ → List ℕ → Verdict ℕ
write_verdict size buffer work =
    if is_working_short work then refusal 9 []
    else (if nat_lt (length buffer) size then refusal 12 (size ∷ []) else Ok size)

-- the buffer afterwards: the file at its front, the rest as it was; or all of it as it was
abbrev pub buffer_after_write : ℕ → List ℕ → List ℕ → List ℕ → List ℕ
buffer_after_write size bytes buffer work =
    new_or_old (write_verdict size buffer work) (bytes ++ drop size buffer) buffer
