-- The AES key wrap of RFC 3394 for n = 4 blocks of 64 bits, by its shift register.
use Rattle.std.specs.Prelude.{ℕ, zero, suc, ◌*◌, if◌then◌else◌, Some, None, Option}
use Rattle.std.specs.Prelude.{List, [], ◌∷◌, ◌++◌, replicate}
use Rattle.byte_strings.specs.Strings.{xors, part, is_same}
use Rattle.aes.specs.Cipher.{encrypt, decrypt}

-- RFC 3394, 2.2.3.1: the default initial value, A6A6A6A6A6A6A6A6
abbrev pub initial_value : List ℕ
initial_value = replicate 8 0xA6

-- The register is a string of five 64-bit blocks, A | R[1] | R[2] | R[3] | R[4]: k of them from
-- number i on, where A has number 0.
abbrev pub blocks : ℕ → ℕ → List ℕ → List ℕ
blocks i k s = part (8 * k) (8 * i) s

-- RFC 3394, 2.1: MSB(64, B), the left half of a 128-bit block B
abbrev pub msb64 : List ℕ → List ℕ
msb64 b = part 8 0 b

-- RFC 3394, 2.1: LSB(64, B), its right half
abbrev pub lsb64 : List ℕ → List ℕ
lsb64 b = part 8 8 b

-- a step's number t, below 256, as a 64-bit block
abbrev pub word64 : ℕ → List ℕ
word64 t = 0 ∷ 0 ∷ 0 ∷ 0 ∷ 0 ∷ 0 ∷ 0 ∷ t ∷ []

-- RFC 3394, 2.2.1, step t, where B = AES(K, A | R[1]):
-- A = MSB(64, B) ^ t, R[i] = R[i + 1], R[4] = LSB(64, B)
unfoldable pub wrap_step : (List ℕ → List ℕ) → ℕ → List ℕ → List ℕ
wrap_step aes t s =
    let b = aes (blocks 0 2 s) in
    xors (msb64 b) (word64 t) ++ (blocks 2 3 s ++ lsb64 b)

-- RFC 3394, 2.2.2, step t back, where B = AES-1(K, (A ^ t) | R[4]):
-- A = MSB(64, B), R[1] = LSB(64, B), R[i] = R[i - 1]
unfoldable pub unwrap_step : (List ℕ → List ℕ) → ℕ → List ℕ → List ℕ
unwrap_step inverse t s =
    inverse (xors (blocks 0 1 s) (word64 t) ++ blocks 4 1 s) ++ blocks 1 3 s

-- the steps 1 to t
unfoldable pub wrap_steps : (List ℕ → List ℕ) → ℕ → List ℕ → List ℕ
wrap_steps aes zero s = s
wrap_steps aes (suc t) s = wrap_step aes (suc t) (wrap_steps aes t s)

-- the steps t to 1 back
unfoldable pub unwrap_steps : (List ℕ → List ℕ) → ℕ → List ℕ → List ℕ
unwrap_steps inverse zero s = s
unwrap_steps inverse (suc t) s = unwrap_steps inverse t (unwrap_step inverse (suc t) s)

-- RFC 3394, 2.2.2, output: R[1] to R[4], if A is the initial value
abbrev pub recovered_content : List ℕ → Option (List ℕ)
recovered_content s = if is_same (blocks 0 1 s) initial_value then Some (blocks 1 4 s) else None

-- RFC 3394, 2.2.1: the key wrap of p, in s = 6n = 24 steps
unfoldable pub key_wrap : List ℕ → List ℕ → List ℕ
key_wrap key p = wrap_steps (encrypt key) 24 (initial_value ++ p)

-- RFC 3394, 2.2.2: the key unwrap of c
unfoldable pub key_unwrap : List ℕ → List ℕ → Option (List ℕ)
key_unwrap key c = recovered_content (unwrap_steps (decrypt key) 24 c)
