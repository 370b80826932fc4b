-- The rounds of CIPHER and INVCIPHER of FIPS 197, each with its round key k.
use Rattle.std.specs.Prelude.{ℕ, List}
use Rattle.aes.specs.State.{sub_bytes, shift_rows, mix_columns, add_round_key}
use Rattle.aes.specs.State.{inv_sub_bytes, inv_shift_rows, inv_mix_columns}

-- FIPS 197, 5.1: a round of CIPHER
abbrev pub round_of : List ℕ → List ℕ → List ℕ
round_of s k = add_round_key (mix_columns (shift_rows (sub_bytes s))) k

-- FIPS 197, 5.1: the last round of CIPHER has no MIXCOLUMNS
abbrev pub last_round : List ℕ → List ℕ → List ℕ
last_round s k = add_round_key (shift_rows (sub_bytes s)) k

-- FIPS 197, 5.3: a round of INVCIPHER
abbrev pub inv_round : List ℕ → List ℕ → List ℕ
inv_round s k = inv_mix_columns (add_round_key (inv_sub_bytes (inv_shift_rows s)) k)

-- FIPS 197, 5.3: the last round of INVCIPHER has no INVMIXCOLUMNS
abbrev pub inv_last_round : List ℕ → List ℕ → List ℕ
inv_last_round s k = add_round_key (inv_sub_bytes (inv_shift_rows s)) k
