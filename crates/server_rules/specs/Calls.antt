-- The calls on a server, and what each is given.
use Rattle.std.specs.Prelude.{ℕ, List}
use Rattle.byte_strings.specs.Strings.{IsBytes}
use Rattle.wrap.specs.Meaning.{WrapMeaning, IsLawfulWrap}
use Rattle.tree.specs.declared.types.Pair.{Pair}
use Rattle.tree.specs.Plans.{StrategyMeaning, IsLawfulStrategy}

-- what a publishing is given: strategy, wrap, material, and the three buffers as they were lent
pub record Publishing : Type 0 where
  pub strategy : StrategyMeaning
  pub wrap : WrapMeaning
  pub material : List ℕ
  pub pairs : List Pair
  pub file : List ℕ
  pub work : List ℕ

-- such a publishing, by its parts in that order
abbrev pub publishing : StrategyMeaning → WrapMeaning → List ℕ →
    List Pair → List ℕ → List ℕ → Publishing
publishing strategy wrap material pairs file work = record {
  strategy = strategy;
  wrap = wrap;
  material = material;
  pairs = pairs;
  file = file;
  work = work;
}

-- a call on a server, with what it is given
pub data Call : Type 0 where
  -- a serial, a cradle
  admit : ℕ → ℕ → Call
  -- a serial
  remove : ℕ → Call
  drop_notes : Call
  publish : Publishing → Call
  -- a serial, the buffer for the card
  card : ℕ → List ℕ → Call

-- a publishing is given a lawful strategy, a lawful wrap and bytes; the other calls take anything
abbrev pub IsGivenLawfully : Call → Type 0
IsGivenLawfully (admit x c) = Unit {0}
IsGivenLawfully (remove x) = Unit {0}
IsGivenLawfully drop_notes = Unit {0}
IsGivenLawfully (publish p) =
    IsLawfulStrategy p.strategy × (IsLawfulWrap p.wrap × IsBytes p.material)
IsGivenLawfully (card x buffer) = Unit {0}
