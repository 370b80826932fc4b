-- Where the block ciphers keep bytes, so do S2V and the counter mode.
use Rattle.std.specs.Prelude.{◌≡◌, ℕ, zero, suc, ◌+◌, ◌-◌, ◌/◌, ◌%◌, ◌^◌, ◌<◌, Bool, true, false, cond, List, [], ◌∷◌, length, take, drop, bit_and, nat_le}
use Rattle.std.specs.Prelude.{slice_index, slice_set, refl}
use Rattle.std.proofs.Common.{◌∙◌, arith, leb-false}
use Rattle.std.proofs.lemmas.Nat.{and_le_l}
use Rattle.std.proofs.lemmas.List.{length-set}
use Rattle.byte_strings.specs.Strings.{IsBytes, IsSized, xors}
use Rattle.byte_strings.proofs.Parts.{at_byte, append_bytes, take_bytes, drop_bytes}
use Rattle.byte_strings.proofs.Xors.{xors_bytes, xors_sized}
use Rattle.cmac.specs.Blocks.{number_of, dbl}
use Rattle.cmac.specs.Cmac.{zeros, padding, cmac}
use Rattle.cmac.proofs.Sizes.{bytes_of_sized, dbl_sized, padding_sized, cmac_sized}
use Rattle.wrap_rules.specs.S2v.{xorend, gathered_block, last_string, s2v}
use Rattle.wrap_rules.specs.Counter.{block_without_top_bit, counter_start, increment, keystream, ctr}

-- a string of bytes in which a byte is written is one too
set_bytes : (s : List ℕ) (i x : ℕ) → x < 256 → IsBytes s → IsBytes (slice_set s i x)
set_bytes [] i x l h = tt
set_bytes (y ∷ s) zero x l h = (l, h.1)
set_bytes (y ∷ s) (suc i) x l h = (h.0, set_bytes s i x l h.1)

-- n bytes of which one loses its highest bit are n bytes
without_top_bit_sized : (i n : ℕ) (s : List ℕ) → IsSized n s → IsSized n (block_without_top_bit i s)
without_top_bit_sized i n s h =
    let x = bit_and (slice_index s i) 0x7f in
    let low : bit_and (slice_index s i) 0x7f < 256 = omega (arith, and_le_l (slice_index s i) 0x7f, at_byte s i h.1) in
    (length-set s i x ∙ h.0, set_bytes s i x low h.1)

-- the counter starts as a block of bytes
cleared_sized : (v : List ℕ) → IsSized 16 v → IsSized 16 (counter_start v)
cleared_sized v h = without_top_bit_sized 12 16 (block_without_top_bit 8 v) (without_top_bit_sized 8 16 v h)

-- the counter plus one is a block of bytes
inc_sized : (q : List ℕ) → IsSized 16 (increment q)
unfolding increment
inc_sized q = bytes_of_sized 16 ((number_of 16 q + 1) % 2 ^ 128)

-- bytes added to the end of a string of bytes leave one
xorend_bytes : (s d : List ℕ) → IsBytes s → IsBytes d → IsBytes (xorend s d)
unfolding xorend
xorend_bytes s d h k =
    let n = length s - 16 in
    append_bytes (take n s) (xors (drop n s) d) (take_bytes n s h) (xors_bytes (drop n s) d (drop_bytes n s h) k)

-- the string of which S2V takes the tag is of bytes
last_bytes : (d text : List ℕ) → IsBytes d → IsBytes text → IsBytes (last_string d text)
unfolding last_string
last_bytes d text k h = go (nat_le 16 (length text)) refl
  where
    go : (b : Bool) → nat_le 16 (length text) ≡ b → IsBytes (cond b (xorend text d) (xors (dbl d) (padding text)))
    go true t = xorend_bytes text d h k
    go false t = xors_bytes (dbl d) (padding text) (dbl_sized d).1 (padding_sized text (leb-false 16 (length text) t) h).1

module _ (e : List ℕ → List ℕ) (stays : (s : List ℕ) → IsSized 16 s → IsSized 16 (e s)) where
  -- the key stream is of bytes
  keystream_bytes : (n : ℕ) (q : List ℕ) → IsSized 16 q → IsBytes (keystream e n q)
  unfolding keystream
  keystream_bytes zero q h = tt
  keystream_bytes (suc n) q h = append_bytes (e q) (keystream e n (increment q)) (stays q h).1 (keystream_bytes n (increment q) (inc_sized q))

  -- the counter mode makes n bytes of n bytes
  pub ctr_sized : (n : ℕ) (v text : List ℕ) → IsSized 16 v → IsSized n text → IsSized n (ctr e v text)
  unfolding ctr
  ctr_sized n v text hv h =
      let blocks = (length text + 15) / 16 in
      xors_sized n text (keystream e blocks (counter_start v)) h (keystream_bytes blocks (counter_start v) (cleared_sized v hv))

  -- S2V of one string and a text, both of bytes, is a block of bytes
  pub s2v_sized : (string text : List ℕ) → IsBytes string → IsBytes text → IsSized 16 (s2v e (string ∷ []) text)
  unfolding s2v
  s2v_sized string text hs ht =
      let d = gathered_block e (cmac e zeros) (string ∷ []) in
      let hd : IsBytes (gathered_block e (cmac e zeros) (string ∷ [])) =
      xors_bytes (dbl (cmac e zeros)) (cmac e string) (dbl_sized (cmac e zeros)).1 (cmac_sized e stays string hs).1 in
      cmac_sized e stays (last_string d text) (last_bytes d text hd ht)
