-- The seats and notes of a book are those of the server's cradles, after any calls.
use Rattle.std.proofs.Common.{◌≡◌, ℕ, ◌+◌, true, false, not, ◌||◌, ◌⊎◌, List, [], ◌∷◌, map, filter, eqb, Some, None, refl, sym, ap, ◌∙◌, inl, inr}
use Rattle.std.proofs.lemmas.Bool.{cases_eq, eq-eqb, ne_eqb, or_left, not-true}
use Rattle.std.proofs.lemmas.Option.{none-some, same_Some}
use Rattle.tree.specs.declared.types.Code.{Code}
use Rattle.tree.specs.Rows.{code_at}
use Rattle.tree.specs.Rows as rows
use Rattle.std.specs.List.{list_any}
use Rattle.tree.proofs.Members.{In, in_append, in_map, in_kept}
use Rattle.cradles.specs.declared.Cradle.{Cradle}
use Rattle.cradles.specs.declared.Cradle.TheVariants.{Empty, Stays, Arrives, Departs, Swaps}
use Rattle.cradles.specs.Cradles.{cradle_code, occupant, noted_arrival, holder, has_departure, with_arrival, with_departure, without_notes, after_change}
use Rattle.cradles.specs.Cradles.{IsCradle}
use Rattle.cradles.proofs.Notes
use Rattle.server_rules.specs.States.{leaf_of}
use Rattle.cradles.specs.Draws.{is_arrival_code}
use Rattle.server_rules.specs.Calls.{admit, remove, drop_notes}
use Rattle.law.specs.Book.{Seat, Arrival, Stay, Book, is_departing, seat_from, stay_to, book_of_next_epoch, book_with_call}
use Rattle.law.proofs.NextSteadyStays.{IsSeatAfter, stays_on, arrived, IsEndedAfter, departed, ended_before}

-- who is awaited joins
joins_code : (k : Cradle) (x : ℕ) → noted_arrival k ≡ Some x → is_arrival_code (cradle_code k) ≡ true
joins_code Empty x e = absurd (none-some x e)
joins_code (Stays y) x e = absurd (none-some x e)
joins_code (Arrives y) x e = refl
joins_code (Departs y) x e = absurd (none-some x e)
joins_code (Swaps y z) x e = refl

-- a seat of the book is one of the server, and its departure is noted in both or in neither
pub record Sits (cradles : ℕ → Cradle) (departures : List ℕ) (t : Seat) : Type 0 where
  pub cradled : IsCradle t.cradle
  pub sits : occupant (cradles t.cradle) ≡ Some t.serial
  pub same_departure : list_any (λ x. eqb x t.serial) departures ≡ has_departure (cradles t.cradle)

-- an arrival of the book is noted in its cradle
pub record IsAwaited (cradles : ℕ → Cradle) (a : Arrival) : Type 0 where
  pub cradled : IsCradle a.cradle
  pub comes : noted_arrival (cradles a.cradle) ≡ Some a.serial

-- each seat and each arrival of the book is that of a cradle
pub record Agrees (cradles : ℕ → Cradle) (b : Book) : Type 0 where
  pub sit : (t : Seat) → In t b.seats → Sits cradles b.departures t
  pub come : (a : Arrival) → In a b.arrivals → IsAwaited cradles a

-- only the cradle of that number is another
pub record ChangesOneCradle (before after : ℕ → Cradle) (c : ℕ) (it : Cradle) : Type 0 where
  pub here : after c ≡ it
  pub elsewhere : (d : ℕ) → IsCradle d → (d ≡ c → ⊥) → after d ≡ before d

-- a seat of the next epoch is an arrival's, or one that does not depart
pub seat_next : (b : Book) (t : Seat) → In t (book_of_next_epoch b).seats →
    ((a : Arrival) × (In a b.arrivals × (t ≡ seat_from (b.epoch + 1) a))) ⊎ (In t b.seats × (is_departing b t ≡ false))
seat_next b t i = elim (in_append (map (seat_from (b.epoch + 1)) b.arrivals) (filter (λ u. not (is_departing b u)) b.seats) t i) [
  | inl j ↦ inl (in_map (seat_from (b.epoch + 1)) b.arrivals t j)
  | inr k ↦ let r = in_kept (λ u. not (is_departing b u)) b.seats t k in inr (r.0, not-true (is_departing b t) r.1)
]

module _ (before after : ℕ → Cradle) (b : Book) (old : Agrees before b) where
  -- a seat of the book is that of its cradle as before, if the cradle did not change
  sits_still : (t : Seat) → Sits before b.departures t → after t.cradle ≡ before t.cradle → Sits after b.departures t
  sits_still t s e = record { cradled = s.cradled; sits = ap occupant e ∙ s.sits; same_departure = s.same_departure ∙ sym (ap has_departure e) }

  -- an arrival of the book is noted as before, if its cradle did not change
  comes_still : (a : Arrival) → IsAwaited before a → after a.cradle ≡ before a.cradle → IsAwaited after a
  comes_still a s e = record { cradled = s.cradled; comes = ap noted_arrival e ∙ s.comes }

  -- noting an arrival in a cradle that nobody holds keeps book and cradles in agreement
  pub admit_agrees : (x c : ℕ) → IsCradle c → holder (before c) ≡ None →
      ChangesOneCradle before after c (with_arrival (before c) x) → Agrees after (book_with_call b (admit x c))
  admit_agrees x c k e o = record { sit = sit; come = come }
    where
      now : (d : ℕ) → d ≡ c → after d ≡ with_arrival (before d) x
      now d q = rw q o.here

      sit : (t : Seat) → In t b.seats → Sits after b.departures t
      sit t i = let s = old.sit t i in elim (cases_eq t.cradle c) [
        | inl q ↦ record {
          cradled = s.cradled;
          sits = ap occupant (now t.cradle q) ∙ Notes.arrival_seated (before t.cradle) x ∙ s.sits;
          same_departure = s.same_departure ∙ sym (ap has_departure (now t.cradle q) ∙ Notes.arrival_departs (before t.cradle) x);
        }
        | inr n ↦ sits_still t s (o.elsewhere t.cradle s.cradled n)
      ]

      come : (a : Arrival) → In a (record { serial = x; cradle = c } ∷ b.arrivals) → IsAwaited after a
      come a (inl q) = rw q (record { cradled = k; comes = ap noted_arrival o.here ∙ (Notes.arrival_noted (before c) x e).0 })
      come a (inr i) = let s = old.come a i in elim (cases_eq a.cradle c) [
        | inl q ↦ record { cradled = s.cradled; comes = ap noted_arrival (now a.cradle q) ∙ Notes.arrival_awaited (before a.cradle) x a.serial s.comes }
        | inr n ↦ comes_still a s (o.elsewhere a.cradle s.cradled n)
      ]

  -- noting a departure where the scanner sits keeps book and cradles in agreement
  pub remove_agrees : (x c : ℕ) → occupant (before c) ≡ Some x → ((d : ℕ) → IsCradle d → occupant (before d) ≡ Some x → d ≡ c) →
      ChangesOneCradle before after c (with_departure (before c)) → Agrees after (book_with_call b (remove x))
  remove_agrees x c e apart o = record { sit = sit; come = come }
    where
      now : (d : ℕ) → d ≡ c → after d ≡ with_departure (before d)
      now d q = rw q o.here

      sit : (t : Seat) → In t b.seats → Sits after (x ∷ b.departures) t
      sit t i = let s = old.sit t i in elim (cases_eq t.cradle c) [
        | inl q ↦
            let its : x ≡ t.serial = same_Some x t.serial (sym (ap (λ d. occupant (before d)) q ∙ e) ∙ s.sits) in
            record {
              cradled = s.cradled;
              sits = ap occupant (now t.cradle q) ∙ Notes.departure_seated (before t.cradle) ∙ s.sits;
              same_departure = or_left (eqb x t.serial) (list_any (λ y. eqb y t.serial) b.departures) (eq-eqb x t.serial its)
                  ∙ sym (ap has_departure (now t.cradle q) ∙ Notes.departure_departs (before t.cradle) t.serial s.sits);
            }
        | inr n ↦
            let other : x ≡ t.serial → ⊥ = λ q. n (apart t.cradle s.cradled (s.sits ∙ ap Some (sym q))) in
            record {
              cradled = s.cradled;
              sits = ap occupant (o.elsewhere t.cradle s.cradled n) ∙ s.sits;
              same_departure = ap (λ z. z || list_any (λ y. eqb y t.serial) b.departures) (ne_eqb x t.serial other)
                  ∙ s.same_departure ∙ sym (ap has_departure (o.elsewhere t.cradle s.cradled n));
            }
      ]

      come : (a : Arrival) → In a b.arrivals → IsAwaited after a
      come a i = let s = old.come a i in elim (cases_eq a.cradle c) [
        | inl q ↦ record { cradled = s.cradled; comes = ap noted_arrival (now a.cradle q) ∙ Notes.departure_awaited (before a.cradle) ∙ s.comes }
        | inr n ↦ comes_still a s (o.elsewhere a.cradle s.cradled n)
      ]

  -- clearing all notes keeps book and cradles in agreement
  pub drop_agrees : ((d : ℕ) → IsCradle d → after d ≡ without_notes (before d)) → Agrees after (book_with_call b drop_notes)
  drop_agrees each = record {
    sit = λ t i. let s = old.sit t i in record {
      cradled = s.cradled;
      sits = ap occupant (each t.cradle s.cradled) ∙ Notes.cleared_seated (before t.cradle) ∙ s.sits;
      same_departure = sym (ap has_departure (each t.cradle s.cradled) ∙ Notes.cleared_departs (before t.cradle));
    };
    come = λ a i. absurd i;
  }

  -- carrying out all notes keeps book and cradles in agreement
  pub publish_agrees : ((d : ℕ) → IsCradle d → after d ≡ after_change (before d)) → Agrees after (book_of_next_epoch b)
  publish_agrees each = record { sit = λ t i. elim (seat_next b t i) [ inl r ↦ new t r.0 r.1.0 r.1.1 | inr r ↦ kept t r.0 r.1 ]; come = λ a i. absurd i }
    where
      leaves : (d : ℕ) → IsCradle d → false ≡ has_departure (after d)
      leaves d k = sym (ap has_departure (each d k) ∙ Notes.carried_departs (before d))

      new : (t : Seat) (a : Arrival) → In a b.arrivals → t ≡ seat_from (b.epoch + 1) a → Sits after [] t
      new t a j q = let s = old.come a j in
          rw q (record {
            cradled = s.cradled;
            sits = ap occupant (each a.cradle s.cradled) ∙ Notes.carried_seated (before a.cradle) ∙ Notes.awaited_holds (before a.cradle) a.serial s.comes;
            same_departure = leaves a.cradle s.cradled;
          })

      kept : (t : Seat) → In t b.seats → is_departing b t ≡ false → Sits after [] t
      kept t j e = let s = old.sit t j in record {
        cradled = s.cradled;
        sits = ap occupant (each t.cradle s.cradled) ∙ Notes.carried_seated (before t.cradle)
            ∙ (Notes.stays_on (before t.cradle) t.serial s.sits (sym s.same_departure ∙ e)).0;
        same_departure = leaves t.cradle s.cradled;
      }

-- the codes of the seats and the ended stays of the next epoch
module _ (before : ℕ → Cradle) (b : Book) (old : Agrees before b) (row : List Code)
    (codes : (c : ℕ) → IsCradle c → code_at row (leaf_of c) ≡ cradle_code (before c)) where
  -- each seat of the next epoch stays on or has just arrived, by the code of its cradle
  pub seats_next : (t : Seat) → In t (book_of_next_epoch b).seats → IsSeatAfter b.epoch b.seats row t
  seats_next t i = elim (seat_next b t i) [ inl r ↦ new t r.0 r.1.0 r.1.1 | inr r ↦ kept r.0 r.1 ]
    where
      new : (u : Seat) (a : Arrival) → In a b.arrivals → u ≡ seat_from (b.epoch + 1) a → IsSeatAfter b.epoch b.seats row u
      new u a j q = let s = old.come a j in
          rw q (arrived s.cradled refl (ap is_arrival_code (codes a.cradle s.cradled) ∙ joins_code (before a.cradle) a.serial s.comes))

      kept : In t b.seats → is_departing b t ≡ false → IsSeatAfter b.epoch b.seats row t
      kept j e = let s = old.sit t j in stays_on j (codes t.cradle s.cradled ∙ (Notes.stays_on (before t.cradle) t.serial s.sits (sym s.same_departure ∙ e)).1)

  -- each ended stay of the next epoch has just departed or had ended before
  pub ended_next : (s : Stay) → In s (book_of_next_epoch b).ended → IsEndedAfter b.epoch b.seats b.ended row s
  ended_next s i = elim (in_append (map (stay_to b.epoch) (filter (is_departing b) b.seats)) b.ended s i) [
    | inl j ↦ let r = in_map (stay_to b.epoch) (filter (is_departing b) b.seats) s j in left s r.0 r.1.0 r.1.1
    | inr k ↦ ended_before k
  ]
    where
      left : (r : Stay) (t : Seat) → In t (filter (is_departing b) b.seats) → r ≡ stay_to b.epoch t → IsEndedAfter b.epoch b.seats b.ended row r
      left r t j q =
          let k = in_kept (is_departing b) b.seats t j in
          let it = old.sit t k.0 in
          let code = ap rows.is_departure_code (codes t.cradle it.cradled) ∙ sym (Notes.departs_code (before t.cradle)) in
          rw q (departed k.0 (code ∙ sym it.same_departure ∙ k.1) refl)
