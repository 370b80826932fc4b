-- The key schedule is made of bytes, so AES permutes the blocks.
use Rattle.std.proofs.Common.{◌≡◌, ℕ, zero, suc, ◌+◌, ◌-◌, ◌*◌, ◌/◌, ◌%◌, ◌<◌, Bool, true, false, cond, ◌&&◌, eqb, ltb, List, length, drop, refl, ◌∙◌, lit<}
use Rattle.byte_strings.specs.Strings.{IsBytes, part, xors}
use Rattle.byte_strings.proofs.Xors.{xors_bytes, xors_length}
use Rattle.byte_strings.proofs.Parts.{at_byte, append_bytes, take_bytes, drop_bytes}
use Rattle.field.proofs.Linear.{x_times_byte}
use Rattle.aes.specs.State.{shift_rows, sub_bytes}
use Rattle.aes.proofs.Steps.{sub_sized, shift_length}
use Rattle.aes.specs.KeySchedule.{word, sub_word, rot_word, round_constant, rcon, temp, next_word, expanded_key, key_expansion}
use Rattle.aes.specs.Cipher.{round_key, rounds, cipher, encrypt}
use Rattle.aes.specs.Laws.{Permutes}
use Rattle.aes.proofs.Undo.{decipher_cipher, cipher_decipher, cipher_sized, decipher_sized}

-- a part of a string of bytes is one too
part_bytes : (n at : ℕ) (w : List ℕ) → IsBytes w → IsBytes (part n at w)
part_bytes n at w h = take_bytes n (drop at w) (drop_bytes at w h)

-- of two strings of bytes, whichever is chosen is one
cond_bytes : (b : Bool) (s t : List ℕ) → IsBytes s → IsBytes t → IsBytes (cond b s t)
cond_bytes true s t h k = h
cond_bytes false s t h k = k

-- each round constant is a byte
power_byte : (j : ℕ) → round_constant j < 256
power_byte zero = lit< tt
power_byte (suc zero) = lit< tt
power_byte (suc (suc j)) = x_times_byte (round_constant (suc j)) (power_byte (suc j))

-- ROTWORD keeps bytes
rot_bytes : (a : List ℕ) → IsBytes a → IsBytes (rot_word a)
rot_bytes a h = (at_byte a 1 h, (at_byte a 2 h, (at_byte a 3 h, (at_byte a 0 h, tt))))

-- SUBWORD keeps bytes
sub_bytes_lem : (a : List ℕ) → IsBytes a → IsBytes (sub_word a)
sub_bytes_lem a h = (sub_sized (length a) a (refl, h)).1

-- what is added to a word of the schedule, to make a later one, is of bytes
temp_bytes : (nk i : ℕ) (a : List ℕ) → IsBytes a → IsBytes (temp nk i a)
temp_bytes nk i a h =
    cond_bytes (eqb (i % nk) 0) (xors (sub_word (rot_word a)) (rcon (i / nk))) (cond (ltb 6 nk && eqb (i % nk) 4) (sub_word a) a)
    (xors_bytes (sub_word (rot_word a)) (rcon (i / nk)) (sub_bytes_lem (rot_word a) (rot_bytes a h)) (power_byte (i / nk), (lit< tt, (lit< tt, (lit< tt, tt)))))
    (cond_bytes (ltb 6 nk && eqb (i % nk) 4) (sub_word a) a (sub_bytes_lem a h) h)

-- the next word of a schedule of bytes is of bytes
next_bytes : (nk : ℕ) (w : List ℕ) (i : ℕ) → IsBytes w → IsBytes (next_word nk w i)
unfolding next_word
next_bytes nk w i h =
    xors_bytes (word w (i - nk)) (temp nk i (word w (i - 1))) (part_bytes 4 (4 * (i - nk)) w h)
    (temp_bytes nk i (word w (i - 1)) (part_bytes 4 (4 * (i - 1)) w h))

-- a key of bytes is expanded to bytes
expanded_bytes : (nk : ℕ) (key : List ℕ) (n : ℕ) → IsBytes key → IsBytes (expanded_key nk key n)
unfolding expanded_key
expanded_bytes nk key zero h = h
expanded_bytes nk key (suc n) h =
    let w = expanded_key nk key n in
    let hw = expanded_bytes nk key n h in
    append_bytes w (next_word nk w (nk + n)) hw (next_bytes nk w (nk + n) hw)

-- what AES makes of any string has 16 numbers
pub encrypt_length : (key s : List ℕ) → length (encrypt key s) ≡ 16
unfolding cipher
encrypt_length key s =
    let nr = length key / 4 + 6 in
    let w = key_expansion key in
    xors_length (shift_rows (sub_bytes (rounds w (nr - 1) s))) (round_key w nr) ∙ shift_length (sub_bytes (rounds w (nr - 1) s))

-- under a key of bytes AES permutes the blocks
pub permutes : (key : List ℕ) → IsBytes key → Permutes key
unfolding key_expansion
permutes key h =
    let nr : ℕ = length key / 4 + 6 in
    let w : List ℕ = expanded_key (length key / 4) key (3 * (length key / 4) + 28) in
    let keys : (r : ℕ) → IsBytes (round_key w r) = λ r. part_bytes 16 (16 * r) w (expanded_bytes (length key / 4) key (3 * (length key / 4) + 28) h) in
    record {
      decrypt_encrypt = decipher_cipher w keys nr;
      encrypt_decrypt = cipher_decipher w keys nr;
      encrypt_sized = cipher_sized w keys nr;
      decrypt_sized = decipher_sized w keys nr;
    }
