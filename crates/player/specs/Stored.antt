-- What is stored of a player, and the player that is restored of it.
use Rattle.std.specs.Prelude.{if◌then◌else◌, ℕ, ◌&&◌, Bool, Some, None, Option, ◌==◌}
use Rattle.std.specs.Int.{is_in_range}
use Rattle.player_rules.specs.Players.{PlayerNumbers, player_numbers, Player, waiting, seated}
use Rattle.player_rules.specs.Players.{wiped}
use Rattle.keys.specs.Limits.{IsSerial, is_serial}
use Rattle.player.specs.Ranges.{HasPlayerRanges}
use Rattle.player.specs.declared.any.Stored.{Stored}
use Rattle.player.specs.declared.any.AnyPlayer.{AnyPlayer}
use Rattle.player.specs.declared.any.AnyPlayer.TheVariants as any
use Rattle.keys.specs.declared.limits.TheConstants.{LAST_EPOCH}

-- a player in any state, as the definitions of its calls in player_rules speak of it
abbrev pub player_of : AnyPlayer → Player
player_of (any.Waiting s) = waiting s
player_of (any.Seated s) = seated s
player_of (any.Wiped serial) = wiped serial

-- a state and the numbers of a player, as they are stored
abbrev pub stored_with_state : ℕ → PlayerNumbers → Stored
stored_with_state state s =
    record { state = state; leaf = s.leaf; serial = s.serial; epoch = s.epoch }

-- what is stored of such a player: 1 waiting, 2 seated, 3 wiped, and its numbers; of a wiped one
-- leaf and epoch are 0
abbrev pub stored_of : Player → Stored
stored_of (waiting s) = stored_with_state 1 s
stored_of (seated s) = stored_with_state 2 s
stored_of (wiped serial) = stored_with_state 3 (player_numbers serial 0 0)

-- what is stored of a player
abbrev pub store : AnyPlayer → Stored
store p = stored_of (player_of p)

-- the stored numbers, without the state
abbrev pub stored_numbers : Stored → PlayerNumbers
stored_numbers s = player_numbers s.serial s.leaf s.epoch

-- can a waiting or seated player have these numbers? They are what a card may say
abbrev pub has_player_ranges : Stored → Bool
has_player_ranges s =
    is_serial s.serial && (is_in_range 128 255 s.leaf && is_in_range 1 LAST_EPOCH s.epoch)

-- are they the serial of a player and nothing else, as is left of a wiped one?
abbrev pub is_serial_alone : Stored → Bool
is_serial_alone s = is_serial s.serial && (s.leaf == 0 && s.epoch == 0)

-- the player of which this is stored, if there can be one
abbrev pub restore : Stored → Option AnyPlayer
restore s =
    if s.state == 1
    then (if has_player_ranges s then Some (any.Waiting (stored_numbers s)) else None)
    else (if s.state == 2
    then (if has_player_ranges s then Some (any.Seated (stored_numbers s)) else None)
    else (if s.state == 3 then (if is_serial_alone s then Some (any.Wiped s.serial) else None)
    else None))

-- are the numbers of this player in the ranges of its state? Its type promises it of every player
abbrev pub IsPossible : AnyPlayer → Type 0
IsPossible (any.Waiting s) = HasPlayerRanges s.serial s.leaf s.epoch
IsPossible (any.Seated s) = HasPlayerRanges s.serial s.leaf s.epoch
IsPossible (any.Wiped serial) = IsSerial serial
