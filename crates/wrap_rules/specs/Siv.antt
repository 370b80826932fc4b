-- SIV of RFC 5297, sections 2.6 and 2.7: sealing and opening a text of any length.
use Rattle.std.specs.Prelude.{ℕ, Bool, if◌then◌else◌, List, ◌++◌, take, drop, Some, None, Option}
use Rattle.aes.specs.Cipher.{encrypt}
use Rattle.byte_strings.specs.Strings.{is_same}
use Rattle.wrap_rules.specs.S2v.{s2v}
use Rattle.wrap_rules.specs.Counter.{ctr}

-- RFC 5297, 2.6, SIV-ENCRYPT over two block ciphers: V = S2V(K1, strings, P), then C
abbrev pub siv_encrypt :
    (List ℕ → List ℕ) → (List ℕ → List ℕ) → List (List ℕ) → List ℕ → List ℕ
siv_encrypt e₁ e₂ strings p = s2v e₁ strings p ++ ctr e₂ (s2v e₁ strings p) p

-- RFC 5297, 2.7: is T = V, where T = S2V(K1, strings, P)?
abbrev pub is_synthetic_iv : (List ℕ → List ℕ) → List (List ℕ) → List ℕ → List ℕ → Bool
is_synthetic_iv e₁ strings v p = is_same (s2v e₁ strings p) v

-- RFC 5297, 2.7: the text P of V and C, or none where T is not V
abbrev pub decrypted_text :
    (List ℕ → List ℕ) → (List ℕ → List ℕ) → List (List ℕ) → List ℕ → List ℕ → Option (List ℕ)
decrypted_text e₁ e₂ strings v c =
    if is_synthetic_iv e₁ strings v (ctr e₂ v c) then Some (ctr e₂ v c) else None

-- RFC 5297, 2.7, SIV-DECRYPT over two block ciphers: V is the first 16 bytes of Z
abbrev pub siv_decrypt :
    (List ℕ → List ℕ) → (List ℕ → List ℕ) → List (List ℕ) → List ℕ → Option (List ℕ)
siv_decrypt e₁ e₂ strings z = decrypted_text e₁ e₂ strings (take 16 z) (drop 16 z)

-- RFC 5297, 2.6, SIV-ENCRYPT(K, P, strings): K1 is the first half of a 256-bit K, K2 the second
abbrev pub siv : List ℕ → List (List ℕ) → List ℕ → List ℕ
siv key strings p = siv_encrypt (encrypt (take 16 key)) (encrypt (drop 16 key)) strings p

-- RFC 5297, 2.7, SIV-DECRYPT(K, Z, strings)
abbrev pub siv_plaintext : List ℕ → List (List ℕ) → List ℕ → Option (List ℕ)
siv_plaintext key strings z =
    siv_decrypt (encrypt (take 16 key)) (encrypt (drop 16 key)) strings z
