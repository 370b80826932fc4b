-- What holds of key schedules, and of AES and its inverse.
use Rattle.std.specs.Prelude.{◌≡◌, ℕ, ◌+◌, ◌-◌, ◌*◌, ◌<◌, ◌≤◌, List, length}
use Rattle.byte_strings.specs.Strings.{IsBytes, IsSized, xors}
use Rattle.aes.specs.KeySchedule.{word, temp, key_expansion}
use Rattle.aes.specs.Cipher.{encrypt, decrypt}

-- FIPS 197, 5.2: w is a schedule of a key of nk words
pub record IsSchedule (nk : ℕ) (key w : List ℕ) : Type 0 where
  -- four words for each of nk + 6 rounds, and four before them
  pub size : length w ≡ 16 * (nk + 7)
  -- the first nk words are the key's
  pub key_words : (i : ℕ) → i < nk → word w i ≡ word key i
  -- each later word is the sum of the one nk places before it and of what the standard makes of the
  -- word before
  pub later_words : (i : ℕ) → nk ≤ i → i < 4 * (nk + 7) →
      word w i ≡ xors (word w (i - nk)) (temp nk i (word w (i - 1)))

-- the expansion of a key of nk words is a schedule, and no other string is one
pub record HasOneSchedule (nk : ℕ) (key : List ℕ) : Type 0 where
  pub is_schedule : IsSchedule nk key (key_expansion key)
  pub only_one : (w : List ℕ) → IsSchedule nk key w → w ≡ key_expansion key

-- of each key of one word or more; AES has those of 4, 6 and 8
abbrev pub EachKeyHasOneSchedule : Type 0
EachKeyHasOneSchedule =
    (nk : ℕ) (key : List ℕ) → 1 ≤ nk → length key ≡ 4 * nk → HasOneSchedule nk key

-- under this key, AES and its inverse undo each other on blocks, and make blocks of blocks
pub record Permutes (key : List ℕ) : Type 0 where
  pub decrypt_encrypt : (s : List ℕ) → IsSized 16 s → decrypt key (encrypt key s) ≡ s
  pub encrypt_decrypt : (s : List ℕ) → IsSized 16 s → encrypt key (decrypt key s) ≡ s
  pub encrypt_sized : (s : List ℕ) → IsSized 16 s → IsSized 16 (encrypt key s)
  pub decrypt_sized : (s : List ℕ) → IsSized 16 s → IsSized 16 (decrypt key s)

-- under every key of bytes, whatever its length
abbrev pub AesPermutesBlocks : Type 0
AesPermutesBlocks = (key : List ℕ) → IsBytes key → Permutes key
