-- KEYEXPANSION of FIPS 197, 5.2. The key schedule w is a string of bytes, four to a word.
use Rattle.std.specs.Prelude.{ℕ, zero, suc, ◌+◌, ◌-◌, ◌*◌, ◌/◌, ◌%◌, Bool, if◌then◌else◌, ◌&&◌}
use Rattle.std.specs.Prelude.{◌||◌, List, [], ◌∷◌, ◌++◌, map, length, ◌==◌, nat_lt, slice_index}
use Rattle.byte_strings.specs.Strings.{part, xors}
use Rattle.field.specs.Field.{s_box, x_times}

-- is it the length, in bytes, of a key of AES-128 or AES-256? AES-192 is not used here
abbrev pub is_key_length : ℕ → Bool
is_key_length n = n == 16 || n == 32

-- w[i]
abbrev pub word : List ℕ → ℕ → List ℕ
word w i = part 4 (4 * i) w

-- FIPS 197, 5.2, SUBWORD
abbrev pub sub_word : List ℕ → List ℕ
sub_word a = map s_box a

-- FIPS 197, 5.2, ROTWORD
abbrev pub rot_word : List ℕ → List ℕ
rot_word a = slice_index a 1 ∷ slice_index a 2 ∷ slice_index a 3 ∷ slice_index a 0 ∷ []

-- x to the power j - 1, for j from 1 on
abbrev pub round_constant : ℕ → ℕ
round_constant zero = 0
round_constant (suc zero) = 1
round_constant (suc (suc j)) = x_times (round_constant (suc j))

-- FIPS 197, 5.2, Rcon[j]
abbrev pub rcon : ℕ → List ℕ
rcon j = round_constant j ∷ 0 ∷ 0 ∷ 0 ∷ []

-- FIPS 197, 5.2, temp: what is added to w[i - nk] to make w[i], where a is w[i - 1]
abbrev pub temp : ℕ → ℕ → List ℕ → List ℕ
temp nk i a =
    if i % nk == 0 then xors (sub_word (rot_word a)) (rcon (i / nk))
    else (if nat_lt 6 nk && i % nk == 4 then sub_word a else a)

-- FIPS 197, 5.2: w[i], of the words before it
unfoldable pub next_word : ℕ → List ℕ → ℕ → List ℕ
next_word nk w i = xors (word w (i - nk)) (temp nk i (word w (i - 1)))

-- the key, of nk words, and n words more
unfoldable pub expanded_key : ℕ → List ℕ → ℕ → List ℕ
expanded_key nk key zero = key
expanded_key nk key (suc n) = let w = expanded_key nk key n in w ++ next_word nk w (nk + n)

-- FIPS 197, 5.2, KEYEXPANSION: 4 (nk + 7) words, which are four for each of nk + 6 rounds and four
-- before them, and the first nk of them the key's
unfoldable pub key_expansion : List ℕ → List ℕ
key_expansion key = let nk = length key / 4 in expanded_key nk key (3 * nk + 28)
