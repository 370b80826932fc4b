-- The block cipher that a key schedule makes.
use Rattle.std.specs.Prelude.{ℕ, ◌-◌, List, drop}
use Rattle.std.specs.Simd.{first_chunks}
use Rattle.aes.specs.Cipher.{cipher, inv_cipher}
use Rattle.aes.specs.declared.schedule.Schedule.{Schedule}

-- CIPHER under this schedule, as a function of the block
abbrev pub cipher_of : Schedule → List ℕ → List ℕ
cipher_of w = cipher w.rounds w.bytes.now

-- INVCIPHER under this schedule
abbrev pub inv_cipher_of : Schedule → List ℕ → List ℕ
inv_cipher_of w = inv_cipher w.rounds w.bytes.now

-- the round keys between the first and the last
abbrev pub middle_keys : Schedule → List (List ℕ)
middle_keys w = first_chunks 16 (w.rounds - 1) (drop 16 w.bytes.now)
