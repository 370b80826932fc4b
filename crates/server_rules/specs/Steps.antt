-- What a call makes of a server.
use Rattle.std.specs.Prelude.{ℕ, ◌+◌, ◌-◌, Bool, false, List, map, Some, None, Option, is_err}
use Rattle.std.specs.Prelude.{slice_set}
use Rattle.refusal.specs.Refusals.{new_or_old}
use Rattle.cradles.specs.declared.Cradle.{Cradle}
use Rattle.cradles.specs.Cradles.{with_arrival, with_departure, without_notes, after_change}
use Rattle.server_rules.specs.declared.state.State.{State}
use Rattle.server_rules.specs.States.{cradle, row, seat_index}
use Rattle.cradles.specs.Draws.{keys_after_change}
use Rattle.server_rules.specs.Calls.{Call, admit, remove, drop_notes, publish, card}
use Rattle.server_rules.specs.Notes.{admit_verdict, remove_verdict}
use Rattle.server_rules.specs.Cards.{card_verdict}
use Rattle.server_rules.specs.Publishings.{publish_verdict}

-- the server with other cradles
abbrev pub server_with_cradles : State → List Cradle → State
server_with_cradles s cradles = record s { cradles = cradles }

-- the server with another cradle of that number
abbrev pub server_with_cradle : State → ℕ → Cradle → State
server_with_cradle s c it = server_with_cradles s (slice_set s.cradles (c - 1) it)

-- the server with the arrival of a scanner at a cradle noted
abbrev pub server_with_arrival : State → ℕ → ℕ → State
server_with_arrival s x c = server_with_cradle s c (with_arrival (cradle s c) x)

-- the server with the departure from the cradle of that index noted
abbrev pub server_with_departure_at : State → Option ℕ → State
server_with_departure_at s None = s
server_with_departure_at s (Some i) =
    server_with_cradle s (i + 1) (with_departure (cradle s (i + 1)))

-- the server with the departure of the scanner noted, where it is in a cradle
abbrev pub server_with_departure : State → ℕ → State
server_with_departure s x = server_with_departure_at s (seat_index x s)

-- the server with nothing noted
abbrev pub server_without_notes : State → State
server_without_notes s = server_with_cradles s (map without_notes s.cradles)

-- the server after a change: the next epoch, the notes carried out, and new keys from the material
abbrev pub server_of_next_epoch : State → List ℕ → State
server_of_next_epoch s material = record {
  epoch = s.epoch + 1;
  cradles = map after_change s.cradles;
  nodes = keys_after_change (s.epoch + 1) (row s) material s.nodes;
}

-- the server after a call: what the call makes of it, or the same where it was refused
abbrev pub server_after : State → Call → State
server_after s (admit x c) = new_or_old (admit_verdict s x c) (server_with_arrival s x c) s
server_after s (remove x) = new_or_old (remove_verdict s x) (server_with_departure s x) s
server_after s drop_notes = server_without_notes s
server_after s (publish p) = new_or_old (publish_verdict s p) (server_of_next_epoch s p.material) s
server_after s (card x buffer) = s

-- is the call refused?
abbrev pub is_refused_call : State → Call → Bool
is_refused_call s (admit x c) = is_err (admit_verdict s x c)
is_refused_call s (remove x) = is_err (remove_verdict s x)
is_refused_call s drop_notes = false
is_refused_call s (publish p) = is_err (publish_verdict s p)
is_refused_call s (card x buffer) = is_err (card_verdict s x buffer)
