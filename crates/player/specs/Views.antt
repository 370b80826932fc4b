-- A call that moves a player: its verdict and the player after it, as player_rules speaks of them.
use Rattle.std.specs.Prelude.{Ok, Err, Result}
use Rattle.refusal.specs.Refusals.{Refusal, Verdict}
use Rattle.player_rules.specs.Players.{Player}
use Rattle.player.specs.declared.players.Refused.{Refused}

module _ {S P F : Type 0} where
  -- the verdict of such a call; `means` gives the refusal of a fault
  abbrev pub move_verdict : (F → Refusal) → Result S (Refused P F) → Verdict (Unit {0})
  move_verdict means (Ok p) = Ok tt
  move_verdict means (Err r) = Err (means r.fault)

  -- the player after it: the moved one, or the one that a refusal hands back
  abbrev pub moved_player : (S → Player) → (P → Player) → Result S (Refused P F) → Player
  moved_player next same (Ok p) = next p
  moved_player next same (Err r) = same r.player
