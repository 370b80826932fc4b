-- A player is restored exactly of what is stored of it.
use Rattle.std.proofs.Common.{◌≡◌, ℕ, Bool, true, if◌then◌else◌, Some, None, Option, refl, subst, ap, ◌∙◌, arith, eqb-true}
use Rattle.std.proofs.lemmas.Bool.{cond_both}
use Rattle.std.proofs.lemmas.Option.{cond_some, none-some}
use Rattle.player_rules.specs.Players.{PlayerNumbers, player_numbers}
use Rattle.keys.specs.Limits.{IsSerial}
use Rattle.player.specs.Ranges.{HasPlayerRanges}
use Rattle.player.specs.Stored.{stored_with_state, store, has_player_ranges, is_serial_alone, stored_numbers, restore, IsPossible}
use Rattle.player.specs.Laws.{StoringLaws}
use Rattle.player.specs.declared.any.Stored.{Stored}
use Rattle.player.specs.declared.any.AnyPlayer.{AnyPlayer}
use Rattle.player.specs.declared.any.AnyPlayer.TheVariants as any

-- the numbers of a player in its ranges pass the test when they are stored
passes_range : (state : ℕ) (s : PlayerNumbers) → HasPlayerRanges s.serial s.leaf s.epoch → has_player_ranges (stored_with_state state s) ≡ true
passes_range state s r = grind (arith, r.serial_range, r.leaf_range, r.epoch_range)

-- what is stored of a wiped player is its serial and nothing else
alone : (serial : ℕ) → IsSerial serial → is_serial_alone (store (any.Wiped serial)) ≡ true
alone serial r = grind (arith, r)

-- what is stored of a player is restored as that player
back : (p : AnyPlayer) → IsPossible p → restore (store p) ≡ Some p
back (any.Waiting s) r = ap (λ b. if b then Some (any.Waiting s) else None) (passes_range 1 s r)
back (any.Seated s) r = ap (λ b. if b then Some (any.Seated s) else None) (passes_range 2 s r)
back (any.Wiped serial) r = ap (λ b. if b then Some (any.Wiped serial) else None) (alone serial r)

module _ (s : Stored) where
  -- numbers that pass the test are in their ranges
  in_ranges : has_player_ranges s ≡ true → HasPlayerRanges s.serial s.leaf s.epoch
  in_ranges e = record { serial_range = (grind arith, grind arith); leaf_range = (grind arith, grind arith); epoch_range = (grind arith, grind arith) }

  -- what stands in s is what is stored of that player, which has its ranges
  abbrev IsStoredAs : AnyPlayer → Type 0
  IsStoredAs p = (s ≡ store p) × IsPossible p

  -- s by its parts
  by_parts : (state leaf epoch : ℕ) → s.state ≡ state → s.leaf ≡ leaf → s.epoch ≡ epoch → s ≡ stored_with_state state (player_numbers s.serial leaf epoch)
  by_parts state leaf epoch a b c =
      ap (λ n. stored_with_state n (stored_numbers s)) a
      ∙ ap (λ n. stored_with_state state (player_numbers s.serial n s.epoch)) b
      ∙ ap (λ n. stored_with_state state (player_numbers s.serial leaf n)) c

  -- with state 1 and numbers in range, it was stored of a waiting player
  waiting_was : s.state ≡ 1 → has_player_ranges s ≡ true → IsStoredAs (any.Waiting (stored_numbers s))
  waiting_was is e = (by_parts 1 s.leaf s.epoch is refl refl, in_ranges e)

  -- with state 2 and numbers in range, it was stored of a seated player
  seated_was : s.state ≡ 2 → has_player_ranges s ≡ true → IsStoredAs (any.Seated (stored_numbers s))
  seated_was is e = (by_parts 2 s.leaf s.epoch is refl refl, in_ranges e)

  -- with state 3 and nothing but a serial, it was stored of a wiped player
  wiped_was : s.state ≡ 3 → is_serial_alone s ≡ true → IsStoredAs (any.Wiped s.serial)
  wiped_was is e = (by_parts 3 0 0 is (grind arith) (grind arith), (grind arith, grind arith))

  -- a player that comes from a test was there where the test succeeds
  tested : (b : Bool) (q p : AnyPlayer) → (b ≡ true → IsStoredAs q) → (if b then Some q else None) ≡ Some p → IsStoredAs p
  tested b q p h e = let both = cond_some b q p e in subst IsStoredAs both.1 (h both.0)

  -- whatever player is restored, this is what is stored of it
  was : (p : AnyPlayer) → restore s ≡ Some p → IsStoredAs p
  was p = cond_both _ _ _ Comes
      (λ one. tested (has_player_ranges s) (any.Waiting (stored_numbers s)) p (waiting_was (eqb-true s.state 1 one)))
      (λ _. cond_both _ _ _ Comes
      (λ two. tested (has_player_ranges s) (any.Seated (stored_numbers s)) p (seated_was (eqb-true s.state 2 two)))
      (λ _. cond_both _ _ _ Comes
      (λ three. tested (is_serial_alone s) (any.Wiped s.serial) p (wiped_was (eqb-true s.state 3 three)))
      (λ _ e. absurd (none-some p e))))
    where
      Comes : Option AnyPlayer → Type 0
      Comes o = o ≡ Some p → IsStoredAs p

-- a stored player comes back, and nothing else is restored
pub storing_laws : StoringLaws
storing_laws = record { comes_back = back; nothing_else = was }
