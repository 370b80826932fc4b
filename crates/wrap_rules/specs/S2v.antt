-- S2V of RFC 5297, section 2.4, over a block cipher e: a block from associated strings and a text.
use Rattle.std.specs.Prelude.{ℕ, ◌-◌, if◌then◌else◌, nat_le}
use Rattle.std.specs.Prelude.{List, [], ◌∷◌, ◌++◌, length, take, drop}
use Rattle.byte_strings.specs.Strings.{xors}
use Rattle.cmac.specs.Blocks.{dbl}
use Rattle.cmac.specs.Cmac.{zeros, padding, cmac}

-- RFC 5297, 2.1: S xorend D, a block added to the end of a string
unfoldable pub xorend : List ℕ → List ℕ → List ℕ
xorend s d = take (length s - 16) s ++ xors (drop (length s - 16) s) d

-- RFC 5297, 2.4: D = dbl(D) xor AES-CMAC(K, Si) for each string in turn, from where D is d
abbrev pub gathered_block : (List ℕ → List ℕ) → List ℕ → List (List ℕ) → List ℕ
gathered_block e d [] = d
gathered_block e d (s ∷ ss) = gathered_block e (xors (dbl d) (cmac e s)) ss

-- RFC 5297, 2.4: T = Sn xorend D for a text Sn of a block or more, else T = dbl(D) xor pad(Sn)
unfoldable pub last_string : List ℕ → List ℕ → List ℕ
last_string d text =
    if nat_le 16 (length text) then xorend text d else xors (dbl d) (padding text)

-- RFC 5297, 2.4: V = AES-CMAC(K, T), with D from AES-CMAC(K, <zero>) on
unfoldable pub s2v : (List ℕ → List ℕ) → List (List ℕ) → List ℕ → List ℕ
s2v e strings text = cmac e (last_string (gathered_block e (cmac e zeros) strings) text)
