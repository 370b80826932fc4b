-- Each transformation keeps a state a state, and is undone by its inverse.
use Rattle.std.proofs.Common.{◌≡◌, ℕ, suc, ◌+◌, ◌-◌, ◌*◌, ◌/◌, ◌%◌, ◌<◌, List, [], ◌∷◌, map, length, get_or, sym, refl, ap, ◌∙◌, ap₂}
use Rattle.std.proofs.lemmas.List.{length-map}
use Rattle.byte_strings.specs.Strings.{IsBytes, IsSized}
use Rattle.byte_strings.proofs.Parts.{at_byte}
use Rattle.field.specs.Field.{s_box, inv_s_box, mixed_byte, inv_mixed_byte, ColumnFunction}
use Rattle.field.proofs.Boxes.{inv_s_box_undoes, s_box_undoes, s_box_byte, inv_s_box_byte}
use Rattle.field.proofs.Columns.{inv_mix_mix, mix_inv_mix, mix_byte_lem, inv_mix_byte_lem}
use Rattle.aes.specs.State.{sub_bytes, inv_sub_bytes, every_place, permuted_state, shift_rows, inv_shift_rows, mapped_columns, mix_columns, inv_mix_columns}
use Rattle.aes.proofs.Sixteen.{sixteen}

-- a function that keeps bytes, taken at each place, keeps a string of bytes
map_bytes : (f : ℕ → ℕ) → ((b : ℕ) → b < 256 → f b < 256) → (s : List ℕ) → IsBytes s → IsBytes (map f s)
map_bytes f p [] h = tt
map_bytes f p (x ∷ xs) h = (p x h.0, map_bytes f p xs h.1)

-- what undoes a function at each byte undoes it at each place of a string
map_undo : (f g : ℕ → ℕ) → ((b : ℕ) → b < 256 → g (f b) ≡ b) → (s : List ℕ) → IsBytes s → map g (map f s) ≡ s
map_undo f g p [] h = refl
map_undo f g p (x ∷ xs) h = ap₂ (λ (a : ℕ) (l : List ℕ). a ∷ l) (p x h.0) (map_undo f g p xs h.1)

-- INVSUBBYTES undoes SUBBYTES
pub sub_undo : (s : List ℕ) → IsBytes s → inv_sub_bytes (sub_bytes s) ≡ s
sub_undo = map_undo s_box inv_s_box inv_s_box_undoes

-- SUBBYTES undoes INVSUBBYTES
pub inv_sub_undo : (s : List ℕ) → IsBytes s → sub_bytes (inv_sub_bytes s) ≡ s
inv_sub_undo = map_undo inv_s_box s_box s_box_undoes

-- SUBBYTES makes n bytes of n bytes
pub sub_sized : (n : ℕ) (s : List ℕ) → IsSized n s → IsSized n (sub_bytes s)
sub_sized n s h = (length-map s s_box ∙ h.0, map_bytes s_box s_box_byte s h.1)

-- INVSUBBYTES makes n bytes of n bytes
pub inv_sub_sized : (n : ℕ) (s : List ℕ) → IsSized n s → IsSized n (inv_sub_bytes s)
inv_sub_sized n s h = (length-map s inv_s_box ∙ h.0, map_bytes inv_s_box inv_s_box_byte s h.1)

-- bytes that are taken from other places are bytes
moved_bytes : (from : ℕ → ℕ) (is s : List ℕ) → IsBytes s → IsBytes (map (λ i. get_or s (from i) 0) is)
moved_bytes from [] s h = tt
moved_bytes from (i ∷ is) s h = (at_byte s (from i) h, moved_bytes from is s h)

-- a state whose bytes are taken from other places is a state
moved_sized : (from : ℕ → ℕ) (s : List ℕ) → IsBytes s → IsSized 16 (permuted_state from s)
moved_sized from s h = (refl, moved_bytes from every_place s h)

-- INVSHIFTROWS undoes SHIFTROWS
pub shift_undo : (s : List ℕ) → length s ≡ 16 → inv_shift_rows (shift_rows s) ≡ s
unfolding shift_rows inv_shift_rows
shift_undo s h = sym (sixteen s h)

-- SHIFTROWS undoes INVSHIFTROWS
pub inv_shift_undo : (s : List ℕ) → length s ≡ 16 → shift_rows (inv_shift_rows s) ≡ s
unfolding shift_rows inv_shift_rows
inv_shift_undo s h = sym (sixteen s h)

-- SHIFTROWS makes 16 numbers of any string
pub shift_length : (s : List ℕ) → length (shift_rows s) ≡ 16
unfolding shift_rows
shift_length s = refl

-- SHIFTROWS makes 16 bytes of bytes
pub shift_sized : (s : List ℕ) → IsBytes s → IsSized 16 (shift_rows s)
unfolding shift_rows
shift_sized s h = moved_sized (λ i. i % 4 + 4 * ((i / 4 + i % 4) % 4)) s h

-- INVSHIFTROWS makes 16 bytes of bytes
pub inv_shift_sized : (s : List ℕ) → IsBytes s → IsSized 16 (inv_shift_rows s)
unfolding inv_shift_rows
inv_shift_sized s h = moved_sized (λ i. i % 4 + 4 * ((i / 4 + 4 - i % 4) % 4)) s h

-- a state of mapped columns is as long as it was
columns_length : (f : ColumnFunction) (s : List ℕ) → length (mapped_columns f s) ≡ length s
columns_length f [] = refl
columns_length f (a ∷ []) = refl
columns_length f (a ∷ b ∷ []) = refl
columns_length f (a ∷ b ∷ c ∷ []) = refl
columns_length f (a ∷ b ∷ c ∷ d ∷ s) = ap (λ (n : ℕ). suc (suc (suc (suc n)))) (columns_length f s)

-- where the function keeps bytes, mapped columns are of bytes
columns_bytes : (f : ColumnFunction) → ((a b c d : ℕ) → c < 256 → d < 256 → f a b c d < 256) → (s : List ℕ) → IsBytes s → IsBytes (mapped_columns f s)
columns_bytes f p [] h = tt
columns_bytes f p (a ∷ []) h = h
columns_bytes f p (a ∷ b ∷ []) h = h
columns_bytes f p (a ∷ b ∷ c ∷ []) h = h
columns_bytes f p (a ∷ b ∷ c ∷ d ∷ s) (ha, (hb, (hc, (hd, h)))) =
    (p a b c d hc hd, (p b c d a hd ha, (p c d a b ha hb, (p d a b c hb hc, columns_bytes f p s h))))

-- g makes of the column by f the column that it was
abbrev Undoes : ColumnFunction → ColumnFunction → Type 0
Undoes g f = (a b c d : ℕ) → a < 256 → b < 256 → c < 256 → d < 256 → g (f a b c d) (f b c d a) (f c d a b) (f d a b c) ≡ a

-- what undoes a function on each column undoes it on a state
columns_undo : (f g : ColumnFunction) → Undoes g f → (s : List ℕ) → IsBytes s → mapped_columns g (mapped_columns f s) ≡ s
columns_undo f g p [] h = refl
columns_undo f g p (a ∷ []) h = refl
columns_undo f g p (a ∷ b ∷ []) h = refl
columns_undo f g p (a ∷ b ∷ c ∷ []) h = refl
columns_undo f g p (a ∷ b ∷ c ∷ d ∷ s) (ha, (hb, (hc, (hd, h)))) =
    λ i. p a b c d ha hb hc hd i ∷ p b c d a hb hc hd ha i ∷ p c d a b hc hd ha hb i ∷ p d a b c hd ha hb hc i ∷ columns_undo f g p s h i

-- INVMIXCOLUMNS undoes MIXCOLUMNS
pub mix_undo : (s : List ℕ) → IsBytes s → inv_mix_columns (mix_columns s) ≡ s
unfolding mix_columns inv_mix_columns
mix_undo = columns_undo mixed_byte inv_mixed_byte inv_mix_mix

-- MIXCOLUMNS undoes INVMIXCOLUMNS
pub inv_mix_undo : (s : List ℕ) → IsBytes s → mix_columns (inv_mix_columns s) ≡ s
unfolding mix_columns inv_mix_columns
inv_mix_undo = columns_undo inv_mixed_byte mixed_byte mix_inv_mix

-- MIXCOLUMNS makes n bytes of n bytes
pub mix_sized : (n : ℕ) (s : List ℕ) → IsSized n s → IsSized n (mix_columns s)
unfolding mix_columns
mix_sized n s h = (columns_length mixed_byte s ∙ h.0, columns_bytes mixed_byte mix_byte_lem s h.1)

-- INVMIXCOLUMNS makes n bytes of n bytes
pub inv_mix_sized : (n : ℕ) (s : List ℕ) → IsSized n s → IsSized n (inv_mix_columns s)
unfolding inv_mix_columns
inv_mix_sized n s h = (columns_length inv_mixed_byte s ∙ h.0, columns_bytes inv_mixed_byte (λ a b c d hc hd. inv_mix_byte_lem a b c d) s h.1)
