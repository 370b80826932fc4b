-- The counter mode of RFC 5297, section 2.5, over a block cipher e.
use Rattle.std.specs.Prelude.{ℕ, zero, suc, ◌+◌, ◌/◌, ◌%◌, ◌^◌, bit_and}
use Rattle.std.specs.Prelude.{List, [], ◌++◌, length, slice_index, slice_set}
use Rattle.byte_strings.specs.Strings.{xors}
use Rattle.cmac.specs.Blocks.{number_of, bytes_of}

-- the block, with the highest bit of its byte at place i cleared
abbrev pub block_without_top_bit : ℕ → List ℕ → List ℕ
block_without_top_bit i s = slice_set s i (bit_and (slice_index s i) 0x7f)

-- RFC 5297, 2.6: Q, the IV V with bits 31 and 63 cleared, counted from the right
abbrev pub counter_start : List ℕ → List ℕ
counter_start v = block_without_top_bit 12 (block_without_top_bit 8 v)

-- RFC 5297, 2.5: the counter plus one, as a number of 128 bits
unfoldable pub increment : List ℕ → List ℕ
increment q = bytes_of 16 ((number_of 16 q + 1) % 2 ^ 128)

-- RFC 5297, 2.5: n blocks of key stream, from the counter q on
unfoldable pub keystream : (List ℕ → List ℕ) → ℕ → List ℕ → List ℕ
keystream e zero q = []
keystream e (suc n) q = e q ++ keystream e n (increment q)

-- RFC 5297, 2.5: the text with as many blocks of key stream added as reach its end
unfoldable pub ctr : (List ℕ → List ℕ) → List ℕ → List ℕ → List ℕ
ctr e v text = xors text (keystream e ((length text + 15) / 16) (counter_start v))
