-- The checks of admit and of remove, in their order.
use Rattle.std.specs.Prelude.{ℕ, ◌+◌, not, if◌then◌else◌, [], ◌∷◌, Some, None, Ok, Option}
use Rattle.refusal.specs.Refusals.{Verdict, refusal}
use Rattle.cradles.specs.Cradles.{is_cradle, holder, has_departure}
use Rattle.server_rules.specs.declared.state.State.{State}
use Rattle.server_rules.specs.States.{cradle, seat_index, held_cradle_index}
use Rattle.keys.specs.Limits.{is_serial}

-- the scanner holds no cradle, or 3 with that cradle, and nobody holds the cradle, or 4 with who
-- does
abbrev pub admit_free_verdict : Option ℕ → Option ℕ → Verdict (Unit {0})
admit_free_verdict (Some i) other = refusal 3 ((i + 1) ∷ [])
admit_free_verdict None (Some y) = refusal 4 (y ∷ [])
admit_free_verdict None None = Ok tt

-- the verdict on the noting of an arrival: 1, 2, 3, 4
abbrev pub admit_verdict : State → ℕ → ℕ → Verdict (Unit {0})
admit_verdict s x c =
    if not (is_serial x) then refusal 1 []
    else (if not (is_cradle c) then refusal 2 []
    else admit_free_verdict (held_cradle_index x s) (holder (cradle s c)))

-- the scanner is in a cradle, or 5, and its departure is not noted, or 6
abbrev pub remove_seat_verdict : State → Option ℕ → Verdict (Unit {0})
remove_seat_verdict s None = refusal 5 []
remove_seat_verdict s (Some i) = if has_departure (cradle s (i + 1)) then refusal 6 [] else Ok tt

-- the verdict on the noting of a departure: 1, 5, 6
abbrev pub remove_verdict : State → ℕ → Verdict (Unit {0})
remove_verdict s x =
    if not (is_serial x) then refusal 1 [] else remove_seat_verdict s (seat_index x s)
