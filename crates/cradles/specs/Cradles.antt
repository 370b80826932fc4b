-- A cradle: who is in it, and what is noted for it. Scanners go by their serials.
use Rattle.std.specs.Prelude.{ℕ, ◌≤◌, Bool, true, false, ◌&&◌, Some, None, Option, nat_le}
use Rattle.tree.specs.declared.limits.TheConstants.{CRADLES}
use Rattle.tree.specs.declared.types.Code.{Code}
use Rattle.tree.specs.declared.types.Code.TheVariants as codes
use Rattle.cradles.specs.declared.Cradle.{Cradle}
use Rattle.cradles.specs.declared.Cradle.TheVariants.{Empty, Stays, Arrives, Departs, Swaps}

-- the number of a cradle, 1 to 128
abbrev pub IsCradle : ℕ → Type 0
IsCradle c = (1 ≤ c) × (c ≤ CRADLES)

-- the same as a test
abbrev pub is_cradle : ℕ → Bool
is_cradle c = nat_le 1 c && nat_le c CRADLES

-- its code in the row of the next change
abbrev pub cradle_code : Cradle → Code
cradle_code Empty = codes.Empty
cradle_code (Stays x) = codes.Stays
cradle_code (Arrives x) = codes.Arrives
cradle_code (Departs x) = codes.Departs
cradle_code (Swaps x y) = codes.Swaps

-- who is in it now
abbrev pub occupant : Cradle → Option ℕ
occupant Empty = None
occupant (Stays x) = Some x
occupant (Arrives x) = None
occupant (Departs x) = Some x
occupant (Swaps x y) = Some x

-- whose arrival is noted
abbrev pub noted_arrival : Cradle → Option ℕ
noted_arrival Empty = None
noted_arrival (Stays x) = None
noted_arrival (Arrives x) = Some x
noted_arrival (Departs x) = None
noted_arrival (Swaps x y) = Some y

-- who holds it: seated without a noted departure, or noted to arrive
abbrev pub holder : Cradle → Option ℕ
holder Empty = None
holder (Stays x) = Some x
holder (Arrives x) = Some x
holder (Departs x) = None
holder (Swaps x y) = Some y

-- a departure is noted
abbrev pub has_departure : Cradle → Bool
has_departure Empty = false
has_departure (Stays x) = false
has_departure (Arrives x) = false
has_departure (Departs x) = true
has_departure (Swaps x y) = true

-- with an arrival noted; nothing is noted where the cradle has a holder
abbrev pub with_arrival : Cradle → ℕ → Cradle
with_arrival Empty z = Arrives z
with_arrival (Stays x) z = Stays x
with_arrival (Arrives x) z = Arrives x
with_arrival (Departs x) z = Swaps x z
with_arrival (Swaps x y) z = Swaps x y

-- with a departure noted; nothing is noted where nobody stays
abbrev pub with_departure : Cradle → Cradle
with_departure Empty = Empty
with_departure (Stays x) = Departs x
with_departure (Arrives x) = Arrives x
with_departure (Departs x) = Departs x
with_departure (Swaps x y) = Swaps x y

-- with nothing noted
abbrev pub without_notes : Cradle → Cradle
without_notes Empty = Empty
without_notes (Stays x) = Stays x
without_notes (Arrives x) = Empty
without_notes (Departs x) = Stays x
without_notes (Swaps x y) = Stays x

-- with the notes carried out: the departure, then the arrival
abbrev pub after_change : Cradle → Cradle
after_change Empty = Empty
after_change (Stays x) = Stays x
after_change (Arrives x) = Stays x
after_change (Departs x) = Empty
after_change (Swaps x y) = Stays y
