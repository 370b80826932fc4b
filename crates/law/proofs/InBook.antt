-- The book's words over `In`, as proofs go over lists, and the bridges to the law's own.
use Rattle.std.proofs.Common.{◌≡◌, ℕ, inl, inr}
use Rattle.tree.proofs.Members.{In, in_contains, contains_in}
use Rattle.law.specs.Book.{Book, Seat, Stay, IsSeated, IsArriving, IsStay}
use Rattle.law.proofs.SteadyStays.{IsStayOf}

-- a stay of the book
abbrev pub IsStayIn : Book → Stay → Type 0
IsStayIn b = IsStayOf b.epoch b.seats b.ended

-- the scanner sits in that cradle
abbrev pub SitsIn : Book → ℕ → ℕ → Type 0
SitsIn b x c = (t : Seat) × (In t b.seats × ((t.serial ≡ x) × (t.cradle ≡ c)))

-- its arrival there is noted
abbrev pub ArrivesIn : Book → ℕ → ℕ → Type 0
ArrivesIn b x c = In (record { serial = x; cradle = c }) b.arrivals

-- a stay of the law is one over lists
pub stay_in : (b : Book) (s : Stay) → IsStay b s → IsStayIn b s
stay_in b s (inl i) = inl (contains_in b.seats s.seat i.0, i.1)
stay_in b s (inr i) = inr (contains_in b.ended s i)

-- a stay over lists is one of the law
pub in_stay : (b : Book) (s : Stay) → IsStayIn b s → IsStay b s
in_stay b s (inl i) = inl (in_contains b.seats s.seat i.0, i.1)
in_stay b s (inr i) = inr (in_contains b.ended s i)

-- who sits in a cradle by the lists is seated there for the law
pub in_seat : (b : Book) (x c : ℕ) → SitsIn b x c → IsSeated b x c
in_seat b x c t = (t.0, (in_contains b.seats t.0 t.1.0, t.1.1))

-- who arrives for the law arrives by the lists
pub arrival_in : (b : Book) (x c : ℕ) → IsArriving b x c → ArrivesIn b x c
arrival_in b x c i = contains_in b.arrivals (record { serial = x; cradle = c }) i

-- who arrives by the lists arrives for the law
pub in_arrival : (b : Book) (x c : ℕ) → ArrivesIn b x c → IsArriving b x c
in_arrival b x c i = in_contains b.arrivals (record { serial = x; cradle = c }) i
