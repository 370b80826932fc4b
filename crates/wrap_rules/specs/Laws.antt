-- That SIV opens exactly what it seals, for any strings and texts.
use Rattle.std.specs.Prelude.{◌≡◌, ℕ, List, length, Some}
use Rattle.wrap_rules.specs.Siv.{siv_encrypt, siv_decrypt}

-- SIV over these two block ciphers opens what it seals, and nothing else
pub record IsExact (e₁ e₂ : List ℕ → List ℕ) : Type 0 where
  -- what was sealed opens to its text
  pub opens : (strings : List (List ℕ)) (p : List ℕ) →
      siv_decrypt e₁ e₂ strings (siv_encrypt e₁ e₂ strings p) ≡ Some p
  -- what opens to a text is the sealing of that text
  pub only : (strings : List (List ℕ)) (z p : List ℕ) →
      siv_decrypt e₁ e₂ strings z ≡ Some p → siv_encrypt e₁ e₂ strings p ≡ z

-- so it is for any two block ciphers, where the first answers 16 bytes
abbrev pub IsSivExact : Type 0
IsSivExact = (e₁ e₂ : List ℕ → List ℕ) → ((s : List ℕ) → length (e₁ s) ≡ 16) → IsExact e₁ e₂
