-- What is known of a scanner's board.
use Rattle.std.specs.Prelude.{◌≡◌, ℕ, true, List, Some, None, Option, replicate}
use Rattle.player_rules.specs.Players.{Player, waiting, seated, wiped}
use Rattle.player.specs.declared.any.AnyPlayer.{AnyPlayer}
use Rattle.player.specs.Stored.{player_of}
use Rattle.law.specs.Runs.{Edition}
use Rattle.law.specs.Players.{Course}
use Rattle.player_rules.specs.declared.limits.TheConstants.{RING_BYTES}

-- the player is on a course with its card, over files all of which it accepted; or it is wiped, and
-- its ring is zeros
abbrev pub IsOnCourse : List ℕ → Player → List ℕ → Type 0
IsOnCourse card (waiting s) ring = (files : List Edition) × Course card files true (waiting s) ring
IsOnCourse card (seated s) ring = (files : List Edition) × Course card files true (seated s) ring
IsOnCourse card (wiped x) ring = ring ≡ replicate RING_BYTES 0

-- a board has a player, and that is on its course
abbrev pub HasPlayerOnCourse : List ℕ → Option AnyPlayer → List ℕ → Type 0
HasPlayerOnCourse card None ring = ⊥
HasPlayerOnCourse card (Some p) ring = IsOnCourse card (player_of p) ring

-- if the first player, with its ring, is on a course with some card, so is the second with its own
abbrev pub StaysOnCourse : Player → List ℕ → Player → List ℕ → Type 0
StaysOnCourse p ring q left =
    (card : List ℕ) → ∥ IsOnCourse card p ring ∥₁ → ∥ IsOnCourse card q left ∥₁
