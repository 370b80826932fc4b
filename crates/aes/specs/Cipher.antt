-- CIPHER and INVCIPHER of FIPS 197 over a key schedule w, and AES.
use Rattle.std.specs.Prelude.{ℕ, zero, suc, ◌+◌, ◌-◌, ◌*◌, ◌/◌, List, length}
use Rattle.byte_strings.specs.Strings.{part}
use Rattle.aes.specs.State.{add_round_key}
use Rattle.aes.specs.Rounds.{round_of, last_round, inv_round, inv_last_round}
use Rattle.aes.specs.KeySchedule.{key_expansion}

-- FIPS 197, 5.1.4: the key of round r is the words 4 r to 4 r + 3
abbrev pub round_key : List ℕ → ℕ → List ℕ
round_key w r = part 16 (16 * r) w

-- the first ADDROUNDKEY of CIPHER, and n rounds
unfoldable pub rounds : List ℕ → ℕ → List ℕ → List ℕ
rounds w zero s = add_round_key s (round_key w 0)
rounds w (suc n) s = round_of (rounds w n s) (round_key w (suc n))

-- FIPS 197, 5.1, CIPHER: nr rounds, the last without MIXCOLUMNS
unfoldable pub cipher : ℕ → List ℕ → List ℕ → List ℕ
cipher nr w s = last_round (rounds w (nr - 1) s) (round_key w nr)

-- the rounds of INVCIPHER with the keys n to 1, and its last with key 0
unfoldable pub inv_rounds : List ℕ → ℕ → List ℕ → List ℕ
inv_rounds w zero s = inv_last_round s (round_key w 0)
inv_rounds w (suc n) s = inv_rounds w n (inv_round s (round_key w (suc n)))

-- FIPS 197, 5.3, INVCIPHER
unfoldable pub inv_cipher : ℕ → List ℕ → List ℕ → List ℕ
inv_cipher nr w s = inv_rounds w (nr - 1) (add_round_key s (round_key w nr))

-- FIPS 197, 5: AES of a block, where a key of Nk = length key / 4 words has Nr = Nk + 6 rounds
abbrev pub encrypt : List ℕ → List ℕ → List ℕ
encrypt key s = cipher (length key / 4 + 6) (key_expansion key) s

-- the inverse of AES, which is INVCIPHER under the same key
abbrev pub decrypt : List ℕ → List ℕ → List ℕ
decrypt key s = inv_cipher (length key / 4 + 6) (key_expansion key) s
