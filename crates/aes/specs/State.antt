-- The transformations of FIPS 197, 5.1 and 5.3. A state is the list of its 16 bytes, column after
-- column, as in 3.4.
use Rattle.std.specs.Prelude.{ℕ, ◌+◌, ◌-◌, ◌*◌, ◌/◌, ◌%◌, List, [], ◌∷◌, ◌++◌, map, slice_index}
use Rattle.byte_strings.specs.Strings.{xors}
use Rattle.field.specs.Field.{s_box, inv_s_box, mixed_byte, inv_mixed_byte}
use Rattle.field.specs.Field.{ColumnFunction, column_of}

-- FIPS 197, 5.1.1, SUBBYTES
abbrev pub sub_bytes : List ℕ → List ℕ
sub_bytes s = map s_box s

-- FIPS 197, 5.3.2, INVSUBBYTES
abbrev pub inv_sub_bytes : List ℕ → List ℕ
inv_sub_bytes s = map inv_s_box s

-- the places of a state; place i is in row i % 4 and column i / 4
abbrev pub every_place : List ℕ
every_place = 0 ∷ 1 ∷ 2 ∷ 3 ∷ 4 ∷ 5 ∷ 6 ∷ 7 ∷ 8 ∷ 9 ∷ 10 ∷ 11 ∷ 12 ∷ 13 ∷ 14 ∷ 15 ∷ []

-- the state that has at each place i the byte at place `from i` of s
abbrev pub permuted_state : (ℕ → ℕ) → List ℕ → List ℕ
permuted_state from s = map (λ i. slice_index s (from i)) every_place

-- FIPS 197, 5.1.2, SHIFTROWS: s'[r, c] = s[r, (c + r) mod 4]
unfoldable pub shift_rows : List ℕ → List ℕ
shift_rows s = permuted_state (λ i. i % 4 + 4 * ((i / 4 + i % 4) % 4)) s

-- FIPS 197, 5.3.1, INVSHIFTROWS: s'[r, c] = s[r, (c - r) mod 4]
unfoldable pub inv_shift_rows : List ℕ → List ℕ
inv_shift_rows s = permuted_state (λ i. i % 4 + 4 * ((i / 4 + 4 - i % 4) % 4)) s

-- each column by f, one after the other
abbrev pub mapped_columns : ColumnFunction → List ℕ → List ℕ
mapped_columns f [] = []
mapped_columns f (a ∷ []) = a ∷ []
mapped_columns f (a ∷ b ∷ []) = a ∷ b ∷ []
mapped_columns f (a ∷ b ∷ c ∷ []) = a ∷ b ∷ c ∷ []
mapped_columns f (a ∷ b ∷ c ∷ d ∷ s) = column_of f a b c d ++ mapped_columns f s

-- FIPS 197, 5.1.3, MIXCOLUMNS
unfoldable pub mix_columns : List ℕ → List ℕ
mix_columns s = mapped_columns mixed_byte s

-- FIPS 197, 5.3.3, INVMIXCOLUMNS
unfoldable pub inv_mix_columns : List ℕ → List ℕ
inv_mix_columns s = mapped_columns inv_mixed_byte s

-- FIPS 197, 5.1.4, ADDROUNDKEY, which is its own inverse (5.3.4)
abbrev pub add_round_key : List ℕ → List ℕ → List ℕ
add_round_key s k = xors s k
