-- What admit, remove and a card call answer, in the book's own words; and that the server's cradles
-- say what the book says. Runs, whose sites these are, are listed the newest first.
use Rattle.std.specs.Prelude.{◌≡◌, ℕ, ◌<◌, ◌≤◌, ◌↔◌, List, [], ◌∷◌, length, Some, Ok, IsTrue}
use Rattle.refusal.specs.Refusals.{refusal}
use Rattle.cradles.specs.Cradles.{occupant, noted_arrival, has_departure, IsCradle}
use Rattle.server_rules.specs.States.{cradle}
use Rattle.keys.specs.Limits.{IsSerial}
use Rattle.server_rules.specs.Notes.{admit_verdict, remove_verdict}
use Rattle.server_rules.specs.Cards.{card_verdict}
use Rattle.law.specs.Book.{IsSeated, HasSeat, IsArriving, IsDeparting, IsHolder}
use Rattle.law.specs.Book.{HoldsNoCradle, IsFree}
use Rattle.law.specs.Runs.{Site}
use Rattle.keys.specs.declared.limits.TheConstants.{CARD_BYTES}

-- who sits in a cradle of the server, or is noted to arrive or to depart there, stands so in the
-- book, and the other way round
pub record SameCradles (w : Site) : Type 0 where
  pub seats : (x c : ℕ) →
      (IsCradle c × (occupant (cradle w.server c) ≡ Some x)) ↔ IsSeated w.book x c
  pub arrivals : (x c : ℕ) →
      (IsCradle c × (noted_arrival (cradle w.server c) ≡ Some x)) ↔ IsArriving w.book x c
  pub departures : (x c : ℕ) →
      ((IsCradle c × (occupant (cradle w.server c) ≡ Some x))
      × IsTrue (has_departure (cradle w.server c)))
      ↔ (IsSeated w.book x c × IsDeparting w.book x)
  -- a departure is noted of nobody who sits nowhere
  pub departing : (x : ℕ) → IsDeparting w.book x → HasSeat w.book x

-- each answer of admit, when it comes
pub record AdmitAnswers (w : Site) (x c : ℕ) : Type 0 where
  -- 1: it is no serial
  pub no_serial : (admit_verdict w.server x c ≡ refusal 1 []) ↔ (IsSerial x → ⊥)
  -- 2: it is one, and there is no such cradle
  pub no_cradle : (admit_verdict w.server x c ≡ refusal 2 []) ↔ (IsSerial x × (IsCradle c → ⊥))
  -- 3, with the cradle that the scanner holds
  pub serial_held : (d : ℕ) → (admit_verdict w.server x c ≡ refusal 3 (d ∷ []))
      ↔ (IsSerial x × (IsCradle c × IsHolder w.book x d))
  -- 4, with the scanner that holds the cradle: the one that is to arrive holds none
  pub cradle_held : (y : ℕ) → (admit_verdict w.server x c ≡ refusal 4 (y ∷ []))
      ↔ (IsSerial x × (IsCradle c × (HoldsNoCradle w.book x × IsHolder w.book y c)))
  -- accepted: the scanner holds no cradle, and nobody holds this one
  pub accepted : (admit_verdict w.server x c ≡ Ok tt)
      ↔ (IsSerial x × (IsCradle c × (HoldsNoCradle w.book x × IsFree w.book c)))

-- each answer of remove, when it comes
pub record RemoveAnswers (w : Site) (x : ℕ) : Type 0 where
  -- 1: it is no serial
  pub no_serial : (remove_verdict w.server x ≡ refusal 1 []) ↔ (IsSerial x → ⊥)
  -- 5: it is one, and sits nowhere
  pub not_seated : (remove_verdict w.server x ≡ refusal 5 [])
      ↔ (IsSerial x × (HasSeat w.book x → ⊥))
  -- 6: its departure is noted already
  pub departing : (remove_verdict w.server x ≡ refusal 6 []) ↔ IsDeparting w.book x
  -- accepted: it sits somewhere, and no departure is noted
  pub accepted : (remove_verdict w.server x ≡ Ok tt)
      ↔ (HasSeat w.book x × (IsDeparting w.book x → ⊥))

-- each answer of a card call, when it comes
pub record CardAnswers (w : Site) (x : ℕ) (buffer : List ℕ) : Type 0 where
  -- 1: it is no serial
  pub no_serial : (card_verdict w.server x buffer ≡ refusal 1 []) ↔ (IsSerial x → ⊥)
  -- 5: it is one, and sits nowhere
  pub not_seated : (card_verdict w.server x buffer ≡ refusal 5 [])
      ↔ (IsSerial x × (HasSeat w.book x → ⊥))
  -- 12, with the bytes needed: it sits somewhere, and the buffer is shorter
  pub no_room : (card_verdict w.server x buffer ≡ refusal 12 (CARD_BYTES ∷ []))
      ↔ (HasSeat w.book x × (length buffer < CARD_BYTES))
  -- accepted: it sits somewhere, and the card has room
  pub accepted : (card_verdict w.server x buffer ≡ Ok tt)
      ↔ (HasSeat w.book x × (CARD_BYTES ≤ length buffer))
