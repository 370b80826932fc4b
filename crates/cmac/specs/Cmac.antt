-- AES-CMAC of RFC 4493, over any block cipher e, of a message m of any length.
use Rattle.std.specs.Prelude.{ℕ, zero, suc, ◌-◌, ◌/◌, Bool, if◌then◌else◌, ◌==◌, List, ◌∷◌, ◌++◌}
use Rattle.std.specs.Prelude.{length, take, drop, replicate}
use Rattle.byte_strings.specs.Strings.{xors}
use Rattle.cmac.specs.Blocks.{dbl}

-- RFC 4493, 2.3, const_Zero: 16 zeros
abbrev pub zeros : List ℕ
zeros = replicate 16 0

-- RFC 4493, 2.3, Generate_Subkey: K1, for a last block that is whole
abbrev pub k1 : (List ℕ → List ℕ) → List ℕ
k1 e = dbl (e zeros)

-- RFC 4493, 2.3, Generate_Subkey: K2, for one that is padded
abbrev pub k2 : (List ℕ → List ℕ) → List ℕ
k2 e = dbl (k1 e)

-- RFC 4493, 2.4, padding: a one bit, then zeros to the end of the block
unfoldable pub padding : List ℕ → List ℕ
padding m = m ++ (0x80 ∷ replicate (15 - length m) 0)

-- is the last block whole?
abbrev pub is_whole : List ℕ → Bool
is_whole m = length m == 16

-- RFC 4493, 2.4, M_last, where m is the last block
unfoldable pub m_last : (List ℕ → List ℕ) → List ℕ → List ℕ
m_last e m = if is_whole m then xors m (k1 e) else xors (padding m) (k2 e)

-- RFC 4493, 2.4, n - 1: how many blocks of a message of n bytes come before its last; an empty
-- message is one block
abbrev pub blocks_before_last : ℕ → ℕ
blocks_before_last n = (n - 1) / 16

-- RFC 4493, 2.4, steps 6 and 7: from the value X so far, over n whole blocks of m and its last
unfoldable pub chain : (List ℕ → List ℕ) → ℕ → List ℕ → List ℕ → List ℕ
chain e zero x m = e (xors (m_last e m) x)
chain e (suc n) x m = chain e n (e (xors x (take 16 m))) (drop 16 m)

-- RFC 4493, 2.4, AES-CMAC: the tag of m
unfoldable pub cmac : (List ℕ → List ℕ) → List ℕ → List ℕ
cmac e m = chain e (blocks_before_last (length m)) zeros m
