-- A player survives its storing.
use Rattle.std.specs.Prelude.{◌≡◌, Some}
use Rattle.player.specs.Stored.{store, restore, IsPossible}
use Rattle.player.specs.declared.any.Stored.{Stored}
use Rattle.player.specs.declared.any.AnyPlayer.{AnyPlayer}

-- s is restored as p exactly where s is what is stored of p, and p's numbers are in range
pub record StoringLaws : Type 0 where
  -- what is stored of a player comes back as that very player
  pub comes_back : (p : AnyPlayer) → IsPossible p → restore (store p) ≡ Some p
  -- and what comes back as a player is what is stored of it, and its numbers are in range
  pub nothing_else : (s : Stored) (p : AnyPlayer) → restore s ≡ Some p →
      (s ≡ store p) × IsPossible p
