-- The site book: it is told of each call, and whether it was refused. The runs that it is told of,
-- and the lists in it, have the newest first.
use Rattle.std.specs.Prelude.{◌≡◌, ℕ, ◌+◌, ◌≤◌, Bool, true, false, not, ◌⊎◌, List, [], ◌∷◌, ◌++◌}
use Rattle.std.specs.Prelude.{map, filter, nat_eq, Contains}
use Rattle.std.specs.List.{list_any}
use Rattle.server_rules.specs.Calls.{Call, admit, remove, drop_notes, publish, card}

-- a scanner in its cradle, from its first epoch on
pub record Seat : Type 0 where
  pub serial : ℕ
  pub cradle : ℕ
  pub first : ℕ

-- a scanner that is noted to arrive at a cradle
pub record Arrival : Type 0 where
  pub serial : ℕ
  pub cradle : ℕ

-- a seat with its last epoch
pub record Stay : Type 0 where
  pub seat : Seat
  pub last : ℕ

-- the epoch, the seats, the notes and the ended stays; the newest of each stands first
pub record Book : Type 0 where
  pub epoch : ℕ
  pub seats : List Seat
  pub arrivals : List Arrival
  pub departures : List ℕ
  pub ended : List Stay

-- at first there is nothing in it
abbrev pub new_book : Book
new_book = record { epoch = 0; seats = []; arrivals = []; departures = []; ended = [] }

-- whether the departure of a seat's scanner is noted
abbrev pub is_departing : Book → Seat → Bool
is_departing b t = list_any (λ x. nat_eq x t.serial) b.departures

-- the seat that a noted arrival becomes, from that epoch on
abbrev pub seat_from : ℕ → Arrival → Seat
seat_from first a = record { serial = a.serial; cradle = a.cradle; first = first }

-- the stay that a seat becomes when it ends, with that last epoch
abbrev pub stay_to : ℕ → Seat → Stay
stay_to last t = record { seat = t; last = last }

-- the notes are carried out and cleared: the seats of those who depart become ended stays, and
-- each arrival a seat
abbrev pub book_of_next_epoch : Book → Book
book_of_next_epoch b = record {
  epoch = b.epoch + 1;
  seats = map (seat_from (b.epoch + 1)) b.arrivals ++ filter (λ t. not (is_departing b t)) b.seats;
  arrivals = [];
  departures = [];
  ended = map (stay_to b.epoch) (filter (is_departing b) b.seats) ++ b.ended;
}

-- what an accepted call writes into the book
abbrev pub book_with_call : Book → Call → Book
book_with_call b (admit x c) =
    record b { arrivals = record { serial = x; cradle = c } ∷ b.arrivals }
book_with_call b (remove x) = record b { departures = x ∷ b.departures }
book_with_call b drop_notes = record b { arrivals = []; departures = [] }
book_with_call b (publish p) = book_of_next_epoch b
book_with_call b (card x buffer) = b

-- the book after a call of which it is told whether it was refused
abbrev pub book_after : Book → Call → Bool → Book
book_after b c true = b
book_after b c false = book_with_call b c

-- The book's own words for who is where.

-- the scanner sits in that cradle
abbrev pub IsSeated : Book → ℕ → ℕ → Type 0
IsSeated b x c = (t : Seat) × (Contains b.seats t × ((t.serial ≡ x) × (t.cradle ≡ c)))

-- it sits in some cradle
abbrev pub HasSeat : Book → ℕ → Type 0
HasSeat b x = (c : ℕ) × IsSeated b x c

-- its arrival at that cradle is noted
abbrev pub IsArriving : Book → ℕ → ℕ → Type 0
IsArriving b x c = Contains b.arrivals (record { serial = x; cradle = c })

-- its departure is noted in the book
abbrev pub IsDeparting : Book → ℕ → Type 0
IsDeparting b x = Contains b.departures x

-- it holds that cradle: it sits there without a noted departure, or it is noted to arrive there
abbrev pub IsHolder : Book → ℕ → ℕ → Type 0
IsHolder b x c = (IsSeated b x c × (IsDeparting b x → ⊥)) ⊎ IsArriving b x c

-- it neither sits to stay, nor is noted to arrive, in any cradle
abbrev pub HoldsNoCradle : Book → ℕ → Type 0
HoldsNoCradle b x = (c : ℕ) → IsHolder b x c → ⊥

-- nobody holds that cradle
abbrev pub IsFree : Book → ℕ → Type 0
IsFree b c = (x : ℕ) → IsHolder b x c → ⊥

-- a stay is an ended one, or a seat, whose last epoch is the book's
abbrev pub IsStay : Book → Stay → Type 0
IsStay b s = (Contains b.seats s.seat × (s.last ≡ b.epoch)) ⊎ Contains b.ended s

-- from its first epoch to its last
abbrev pub Covers : Stay → ℕ → Type 0
Covers s e = (s.seat.first ≤ e) × (e ≤ s.last)

-- a scanner is a member in an epoch that one of its stays covers
pub record IsMember (b : Book) (serial e : ℕ) : Type 0 where
  pub stay : Stay
  pub is_stay : IsStay b stay
  pub has_serial : stay.seat.serial ≡ serial
  pub covers : Covers stay e
