-- One level more on the way up.
use Rattle.std.proofs.Common.{◌≡◌, ℕ, suc, ◌+◌, ◌-◌, ◌<◌, ◌≤◌, List, Ok, Err, Result, sym, refl, ap, ◌∙◌, arith}
use Rattle.std.specs.List.{range_with_len}
use Rattle.refusal.specs.Refusals.{Verdict}
use Rattle.keys.specs.declared.NodeKey.{NodeKey}
use Rattle.file_rules.specs.Files.{Rekey}
use Rattle.wrap.specs.Meaning.{WrapMeaning}
use Rattle.player_rules.specs.Climbs.{ring_after_level, verdict_and_then, ring_after_levels, ring_after_file}
use Rattle.climb.specs.declared.fault.ReadFault.{ReadFault}
use Rattle.climb.specs.Refusals.{read_refusal, verdict_with}

module _ (w : WrapMeaning) (f : Rekey) (leaf : ℕ) where
  -- the levels from k on
  unfoldable pub ring_from_level : ℕ → List NodeKey → Verdict (List NodeKey)
  ring_from_level k ring = ring_after_levels w f leaf (range_with_len k (8 - k)) ring

  -- from the first level above the leaf on, it is the whole way up
  pub climb_all : (ring : List NodeKey) → ring_from_level 1 ring ≡ ring_after_file w f leaf ring
  unfolding ring_from_level ring_after_file
  climb_all ring = refl

  -- past the root no level is left, and the ring stays
  pub climb_none : (k : ℕ) (ring : List NodeKey) → 8 ≤ k → ring_from_level k ring ≡ Ok ring
  unfolding ring_from_level
  climb_none k ring h = let e : 8 - k ≡ 0 = omega arith in ap (λ n. ring_after_levels w f leaf (range_with_len k n) ring) e

  -- the levels from k on are level k and then those above it
  climb_more : (k : ℕ) (ring : List NodeKey) → k < 8 → ring_from_level k ring ≡ verdict_and_then (ring_after_level w f leaf k ring) (ring_from_level (k + 1))
  unfolding ring_from_level
  climb_more k ring h = let e : 8 - k ≡ suc (8 - (k + 1)) = omega arith in ap (λ n. ring_after_levels w f leaf (range_with_len k n) ring) e

  -- a level, by what its result says
  module _ (k : ℕ) (ring next : List NodeKey) (r : Result (Unit {0}) ReadFault) (before_end : k < 8)
      (level : verdict_with r next ≡ ring_after_level w f leaf k ring) where
    -- with that result, the rest of the way goes on from the next ring, or is refused
    climb_by : (q : Result (Unit {0}) ReadFault) → r ≡ q → ring_from_level k ring ≡ verdict_and_then (verdict_with q next) (ring_from_level (k + 1))
    climb_by q is = climb_more k ring before_end ∙ ap (λ v. verdict_and_then v (ring_from_level (k + 1))) (sym level ∙ ap (λ v. verdict_with v next) is)

  -- a level that is passed
  pub climb_on : (k : ℕ) (ring next : List NodeKey) (u : Unit {0}) (r : Result (Unit {0}) ReadFault) → k < 8 →
      verdict_with r next ≡ ring_after_level w f leaf k ring → r ≡ Ok u → ring_from_level k ring ≡ ring_from_level (k + 1) next
  climb_on k ring next u r h level is = climb_by k ring next r h level (Ok u) is

  -- a level that is refused
  pub climb_stopped : (k : ℕ) (ring next : List NodeKey) (fault : ReadFault) (r : Result (Unit {0}) ReadFault) → k < 8 →
      verdict_with r next ≡ ring_after_level w f leaf k ring → r ≡ Err fault → ring_from_level k ring ≡ Err (read_refusal fault)
  climb_stopped k ring next fault r h level is = climb_by k ring next r h level (Err fault) is
