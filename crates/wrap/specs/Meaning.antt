-- What a key wrap means, and what is asked of it. A key has 32 bytes, a name 10, a content 32.
use Rattle.std.specs.Prelude.{◌≡◌, ℕ, ◌≤◌, List, Some, Option}
use Rattle.byte_strings.specs.Strings.{IsSized}

-- of a key, a name and a content: the sealed bytes
abbrev pub Sealing : Type 0
Sealing = List ℕ → List ℕ → List ℕ → List ℕ

-- of a key, a name and sealed bytes: the content, if they open
abbrev pub Opening : Type 0
Opening = List ℕ → List ℕ → List ℕ → Option (List ℕ)

-- a wrap as data: two wraps with the same record cannot be told apart by any call
pub record WrapMeaning : Type 0 where
  -- the number that stands for it in a file
  pub kind : ℕ
  -- how many bytes a sealing gives
  pub length : ℕ
  -- what it seals
  pub seals : Sealing
  -- what it opens, for sealed bytes of that length
  pub opens : Opening

-- what is asked of a wrap: it opens exactly what it seals
pub record IsLawfulWrap (w : WrapMeaning) : Type 0 where
  -- a kind stands in one byte of a file, and is not 0
  pub kind_range : (1 ≤ w.kind) × (w.kind ≤ 255)
  -- a sealing is longer than its content, and at most twice as long
  pub length_range : (33 ≤ w.length) × (w.length ≤ 64)
  -- sealed bytes are bytes, and as many as the wrap says
  pub sealed_sized : (k n c : List ℕ) → IsSized 32 k → IsSized 10 n → IsSized 32 c →
      IsSized w.length (w.seals k n c)
  -- what was sealed opens to its content
  pub opens_sealed : (k n c : List ℕ) → IsSized 32 k → IsSized 10 n → IsSized 32 c →
      w.opens k n (w.seals k n c) ≡ Some c
  -- what opens was sealed, so nothing else is accepted
  pub opened_was_sealed : (k n z c : List ℕ) → IsSized 32 k → IsSized 10 n →
      IsSized w.length z → w.opens k n z ≡ Some c → IsSized 32 c × (w.seals k n c ≡ z)
