-- What admit checks of a serial and a cradle holds of all stays, and of all noted arrivals.
use Rattle.std.proofs.Common.{◌≡◌, ℕ, Bool, true, List, [], ◌∷◌, map, filter, inl, inr}
use Rattle.tree.proofs.Members.{In, in_append, in_map, in_kept, contains_in}
use Rattle.server_rules.specs.Calls.{Call, admit}
use Rattle.law.proofs.InBook.{stay_in}
use Rattle.law.specs.Book.{Book, Seat, Arrival, Stay, new_book, is_departing, stay_to, book_of_next_epoch, book_with_call}
use Rattle.law.specs.Runs.{Site, site_of, book_of, AllGivenLawfully}
use Rattle.law.specs.Law.{AllHave, AdmitChecks}
use Rattle.server_rules.proofs.EveryCall.{state_laws}
use Rattle.law.proofs.Agreement.{seat_next}
use Rattle.law.proofs.AcceptedCalls.{Keeps, after_call, run_sound}

module _ (property : ℕ → ℕ → Bool) where
  -- it holds of all seats, arrivals and ended stays
  pub record HoldsInBook (b : Book) : Type 0 where
    pub seats : (t : Seat) → In t b.seats → property t.serial t.cradle ≡ true
    pub arrivals : (a : Arrival) → In a b.arrivals → property a.serial a.cradle ≡ true
    pub ended : (s : Stay) → In s b.ended → property s.seat.serial s.seat.cradle ≡ true

  -- it holds of the book of the next epoch too
  pub holds_next : (b : Book) → HoldsInBook b → HoldsInBook (book_of_next_epoch b)
  holds_next b old = record {
    seats = λ t i. elim (seat_next b t i) [ inl r ↦ rw r.1.1 (old.arrivals r.0 r.1.0) | inr r ↦ old.seats t r.0 ];
    arrivals = λ a i. absurd i;
    ended = λ s i. elim (in_append (map (stay_to b.epoch) (filter (is_departing b) b.seats)) b.ended s i) [
      | inl j ↦ let r = in_map (stay_to b.epoch) (filter (is_departing b) b.seats) s j in
          rw r.1.1 (old.seats r.0 (in_kept (is_departing b) b.seats r.0 r.1.0).0)
      | inr k ↦ old.ended s k
    ];
  }

  -- with one arrival more, of which it holds
  pub holds_admitted : (b : Book) (x c : ℕ) → property x c ≡ true → HoldsInBook b → HoldsInBook (book_with_call b (admit x c))
  holds_admitted b x c is old = record {
    seats = old.seats;
    arrivals = λ a h. elim h [ inl q ↦ rw q is | inr j ↦ old.arrivals a j ];
    ended = old.ended;
  }

  -- it holds of a new book, which is empty
  pub holds_at_first : HoldsInBook new_book
  holds_at_first = record { seats = λ t i. absurd i; arrivals = λ a i. absurd i; ended = λ s i. absurd i }

module _ (property : ℕ → ℕ → Bool) (checked : AdmitChecks property) where
  -- it holds in a book
  abbrev Holds : Book → Type 0
  Holds = HoldsInBook property

  -- each accepted call keeps it, as admit checks it
  keeps : (w : Site) → Holds w.book → Keeps (λ v. Holds v.book) w
  keeps w old = record {
    admits = λ x c ok i k e. holds_admitted property w.book x c (checked w.server x c ok) old;
    removes = λ x i k is. record { seats = old.seats; arrivals = old.arrivals; ended = old.ended };
    drops = record { seats = old.seats; arrivals = λ a i. absurd i; ended = old.ended };
    publishes = λ p given ok. holds_next property w.book old;
  }

  -- after any calls it holds of the book
  have_run : (calls : List Call) → AllGivenLawfully calls → Holds (book_of calls)
  have_run [] given = holds_at_first property
  have_run (c ∷ earlier) given = after_call (λ v. Holds v.book) (site_of earlier) (run_sound state_laws earlier given.1)
      (keeps (site_of earlier) (have_run earlier given.1)) (have_run earlier given.1) c given.0

  -- all stays and noted arrivals have the property, after any calls
  pub all_have : (calls : List Call) → AllGivenLawfully calls → AllHave (site_of calls).book property
  all_have calls given = let h = have_run calls given in
      record {
        stays = λ s i. elim (stay_in (book_of calls) s i) [ inl j ↦ h.seats s.seat j.0 | inr j ↦ h.ended s j ];
        arrivals = λ a i. h.arrivals a (contains_in (book_of calls).arrivals a i);
      }
