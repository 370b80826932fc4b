-- What admit, remove and a card call answer, in the book's own words.
use Rattle.std.proofs.Common.{◌≡◌, ℕ, ◌+◌, ◌-◌, ◌↔◌, Bool, true, false, cond, not, List, [], ◌∷◌, length, Some, None, Ok, Err, Option, is_err, ltb, eqb, refl}
use Rattle.std.proofs.Common.{sym, ap, ap₂, ◌∙◌, subst, subst₂, inl, inr, arith}
use Rattle.std.proofs.lemmas.Bool.{lt-ltb, le-ltb, ltb-true, ltb-false, eq-eqb, eqb-true, true≢false, false_from_ne_true}
use Rattle.std.proofs.lemmas.Option.{none-some}
use Rattle.refusal.specs.Refusals.{Verdict, refusal}
use Rattle.std.specs.List.{list_any}
use Rattle.tree.proofs.Members.{In, some_from, some_who, in_contains, contains_in}
use Rattle.cradles.specs.Cradles.{occupant, noted_arrival, holder, has_departure, is_cradle, IsCradle}
use Rattle.cradles.proofs.Notes
use Rattle.server_rules.specs.declared.state.State.{State}
use Rattle.server_rules.specs.States.{cradle, seat_index, held_cradle_index}
use Rattle.keys.specs.Limits.{IsSerial, is_serial}
use Rattle.server_rules.specs.Notes.{admit_verdict, remove_seat_verdict}
use Rattle.server_rules.specs.Cards.{card_seat_verdict}
use Rattle.server_rules.specs.Sound.{IsSoundServer}
use Rattle.server_rules.proofs.Ranges.{in_range, range_in, not_range}
use Rattle.law.proofs.InBook.{arrival_in, in_seat, in_arrival}
use Rattle.law.specs.Book.{Book, IsSeated, HasSeat, IsArriving, IsDeparting, IsHolder, HoldsNoCradle, IsFree}
use Rattle.law.specs.Runs.{Site}
use Rattle.law.specs.Answers.{SameCradles, AdmitAnswers, RemoveAnswers, CardAnswers}
use Rattle.law.proofs.CradleSearches.{found_at, found_nowhere, found_there}
use Rattle.law.proofs.AcceptedCalls as accepting
use Rattle.law.proofs.AcceptedCalls.{AdmitCase, admit_case, admit_outcome}
use Rattle.law.proofs.SoundSites.{IsSoundSite}
use Rattle.law.proofs.Records.{IsSiteRecorded}

-- two refusals with different numbers are different
numbers_apart : {A : Type 0} (m n : ℕ) {ms ns : List ℕ} → (m ≡ n → ⊥) → refusal {A = A} m ms ≡ refusal n ns → ⊥
numbers_apart {A} m n other e = other (ap number e)
  where
    number : Verdict A → ℕ
    number (Ok a) = 0
    number (Err f) = f.number

-- an acceptance is no refusal
ok_apart : (n : ℕ) {ns : List ℕ} → Ok tt ≡ refusal {A = Unit {0}} n ns → ⊥
ok_apart n e = true≢false (ap is_err (sym e))

-- One check that refuses with a number.

module _ (n : ℕ) (ns : List ℕ) where
  -- refused if it fails
  abbrev refusal_if : Bool → Verdict (Unit {0})
  refusal_if fails = cond fails (refusal n ns) (Ok tt)

  -- if it refused with this number, it failed
  trip_of : (d : Bool) → refusal_if d ≡ refusal n ns → d ≡ true
  trip_of true e = refl
  trip_of false e = absurd (ok_apart n e)

  -- if it passed, it did not fail
  free_of : (d : Bool) → refusal_if d ≡ Ok tt → d ≡ false
  free_of true e = absurd (ok_apart n (sym e))
  free_of false e = refl

  -- it refuses with no other number
  no_other : (m : ℕ) {ms : List ℕ} → (n ≡ m → ⊥) → (d : Bool) → refusal_if d ≡ refusal m ms → ⊥
  no_other m other true e = numbers_apart n m other e
  no_other m other false e = ok_apart m e

module _ (w : Site) (sound : IsSoundServer w.server) (kept : IsSoundSite w) (written : IsSiteRecorded w) where
  -- the server
  abbrev s : State
  s = w.server

  -- the book
  abbrev b : Book
  b = w.book

  -- a departure that is noted of a serial is in the list, and the other way round
  listed : (x : ℕ) → IsDeparting b x → list_any (λ y. eqb y x) b.departures ≡ true
  listed x i = some_from (λ y. eqb y x) b.departures x (contains_in b.departures x i) (eq-eqb x x refl)

  -- a serial in the list of departures departs in the book
  of_list : (x : ℕ) → list_any (λ y. eqb y x) b.departures ≡ true → IsDeparting b x
  of_list x e = let r = some_who (λ y. eqb y x) b.departures e in
      in_contains b.departures x (subst (λ (y : ℕ). In y b.departures) (eqb-true r.0 x r.1.1) r.1.0)

  -- who sits in the book
  seat_there : (x c : ℕ) → IsSeated b x c → IsCradle c × (occupant (cradle s c) ≡ Some x)
  seat_there x c t = let a = kept.agrees.sit t.0 (contains_in b.seats t.0 t.1.0) in
      subst₂ (λ (y d : ℕ). IsCradle d × (occupant (cradle s d) ≡ Some y)) t.1.1.0 t.1.1.1 (a.cradled, a.sits)

  -- a seat departs in the book exactly if a departure is noted in its cradle
  departs_there : (x c : ℕ) → IsSeated b x c → list_any (λ y. eqb y x) b.departures ≡ has_departure (cradle s c)
  departs_there x c t = let a = kept.agrees.sit t.0 (contains_in b.seats t.0 t.1.0) in
      subst₂ (λ (y d : ℕ). list_any (λ z. eqb z y) b.departures ≡ has_departure (cradle s d)) t.1.1.0 t.1.1.1 a.same_departure

  -- who sits in the book has a valid serial
  serial_there : (x c : ℕ) → IsSeated b x c → is_serial x ≡ true
  serial_there x c t = subst (λ (y : ℕ). is_serial y ≡ true) t.1.1.0 (kept.serials.seats t.0 (contains_in b.seats t.0 t.1.0))

  -- who arrives in the book is noted as arriving in that cradle
  arrival_there : (x c : ℕ) → IsArriving b x c → IsCradle c × (noted_arrival (cradle s c) ≡ Some x)
  arrival_there x c i = let a = kept.agrees.come (record { serial = x; cradle = c }) (arrival_in b x c i) in (a.cradled, a.comes)

  -- what the server's cradles say stands in the book
  seat_written : (c x : ℕ) → IsCradle c → occupant (cradle s c) ≡ Some x → IsSeated b x c
  seat_written c x k e = in_seat b x c (written.seat c x k e)

  -- an arrival that is noted in a cradle stands in the book
  arrival_written : (c x : ℕ) → IsCradle c → noted_arrival (cradle s c) ≡ Some x → IsArriving b x c
  arrival_written c x k e = in_arrival b x c (written.arrival c x k e)

  -- whose departure is noted in the book sits somewhere
  departing_written : (x : ℕ) → IsDeparting b x → HasSeat b x
  departing_written x i = let t = written.departing x (contains_in b.departures x i) in (t.0, in_seat b x t.0 t.1)

  -- seats, arrivals and departures of the cradles are those of the book
  pub same_cradles : SameCradles w
  same_cradles = record {
    seats = λ x c. (λ h. seat_written c x h.0 h.1, seat_there x c);
    arrivals = λ x c. (λ h. arrival_written c x h.0 h.1, arrival_there x c);
    departures = λ x c. (
      λ h. let t = seat_written c x h.0.0 h.0.1 in (t, of_list x (departs_there x c t ∙ h.1)),
      λ h. (seat_there x c h.0, sym (departs_there x c h.0) ∙ listed x h.1),
    );
    departing = departing_written;
  }

  -- who holds a cradle in the book holds it at the server, and the other way round
  holds_there : (x c : ℕ) → IsHolder b x c → IsCradle c × (holder (cradle s c) ≡ Some x)
  holds_there x c (inl (t, stays)) =
      let h = seat_there x c t in
      let on : has_departure (cradle s c) ≡ false = sym (departs_there x c t) ∙ false_from_ne_true _ (λ e. stays (of_list x e)) in
      (h.0, (Notes.stays_on (cradle s c) x h.1 on).0)
  holds_there x c (inr a) = let h = arrival_there x c a in (h.0, Notes.awaited_holds (cradle s c) x h.1)

  -- who holds a cradle at the server holds it in the book
  holder_there : (x c : ℕ) → IsCradle c → holder (cradle s c) ≡ Some x → IsHolder b x c
  holder_there x c k e = elim (Notes.holder_from (cradle s c) x e) [
    | inl h ↦ let t = seat_written c x k h.0 in inl (t, λ d. true≢false (sym (listed x d) ∙ departs_there x c t ∙ h.1))
    | inr h ↦ inr (arrival_written c x k h)
  ]

  -- The search for a serial.

  -- who holds no cradle in the book is not found
  out_none : (x : ℕ) → HoldsNoCradle b x → held_cradle_index x s ≡ None
  out_none x out = go (held_cradle_index x s) refl
    where
      go : (o : Option ℕ) → held_cradle_index x s ≡ o → o ≡ None
      go None e = refl
      go (Some i) e = let h = found_at s sound.cradle_count holder x i e in absurd (out (i + 1) (holder_there x (i + 1) h.0 h.1))

  -- who is not found holds no cradle in the book
  none_out : (x : ℕ) → held_cradle_index x s ≡ None → HoldsNoCradle b x
  none_out x e c h = let t = holds_there x c h in found_nowhere s sound.cradle_count holder x e c t.0 t.1

  -- who holds a cradle in the book is found there
  held_there : (x c : ℕ) → IsHolder b x c → held_cradle_index x s ≡ Some (c - 1)
  held_there x c h = let t = holds_there x c h in found_there s sound.cradle_count holder x (λ d e. sound.holders_apart d e x) c t.0 t.1

  -- nobody holds a cradle at the server that is free in the book
  free_none : (c : ℕ) → IsCradle c → IsFree b c → holder (cradle s c) ≡ None
  free_none c k free = go (holder (cradle s c)) refl
    where
      go : (o : Option ℕ) → holder (cradle s c) ≡ o → o ≡ None
      go None e = refl
      go (Some x) e = absurd (free x (holder_there x c k e))

  -- a cradle that nobody holds at the server is free in the book
  none_free : (c : ℕ) → holder (cradle s c) ≡ None → IsFree b c
  none_free c e x h = none-some x (sym e ∙ (holds_there x c h).1)

  -- who sits in the book is found in that cradle
  sits_found : (x c : ℕ) → IsSeated b x c → seat_index x s ≡ Some (c - 1)
  sits_found x c t = let h = seat_there x c t in found_there s sound.cradle_count occupant x (λ d e. sound.seats_apart d e x) c h.0 h.1

  -- who sits nowhere in the book is not found in any cradle
  nowhere_none : (x : ℕ) → (HasSeat b x → ⊥) → seat_index x s ≡ None
  nowhere_none x nowhere = go (seat_index x s) refl
    where
      go : (o : Option ℕ) → seat_index x s ≡ o → o ≡ None
      go None e = refl
      go (Some i) e = let h = found_at s sound.cradle_count occupant x i e in absurd (nowhere (i + 1, seat_written (i + 1) x h.0 h.1))

  -- Admit.

  module _ (x c : ℕ) where
    -- the verdict, and what its checks found, in the book's words
    data IsAdmitOutcome : Verdict (Unit {0}) → Type 0 where
      no_serial : (IsSerial x → ⊥) → IsAdmitOutcome (refusal 1 [])
      no_cradle : IsSerial x → (IsCradle c → ⊥) → IsAdmitOutcome (refusal 2 [])
      serial_held : (d : ℕ) → IsSerial x → IsCradle c → IsHolder b x d → IsAdmitOutcome (refusal 3 (d ∷ []))
      cradle_held : (y : ℕ) → IsSerial x → IsCradle c → HoldsNoCradle b x → IsHolder b y c → IsAdmitOutcome (refusal 4 (y ∷ []))
      accepted : IsSerial x → IsCradle c → HoldsNoCradle b x → IsFree b c → IsAdmitOutcome (Ok tt)

    -- whatever admit answers, the book says why
    admitted_so : IsAdmitOutcome (admit_verdict s x c)
    admitted_so = go (admit_case s x c)
      where
        go : {v : Verdict (Unit {0})} → AdmitCase s x c v → IsAdmitOutcome v
        go (accepting.no_serial p) = no_serial (λ r. true≢false (sym (range_in 1 9999 x r) ∙ p))
        go (accepting.no_cradle p q) = no_cradle (in_range 1 9999 x p) (λ r. true≢false (sym (range_in 1 128 c r) ∙ q))
        go (accepting.serial_held i p q e) = let h = found_at s sound.cradle_count holder x i e in
            serial_held (i + 1) (in_range 1 9999 x p) (in_range 1 128 c q) (holder_there x (i + 1) h.0 h.1)
        go (accepting.cradle_held y p q e f) = let k = in_range 1 128 c q in
            cradle_held y (in_range 1 9999 x p) k (none_out x e) (holder_there y c k f)
        go (accepting.admitted p q e f) = accepted (in_range 1 9999 x p) (in_range 1 128 c q) (none_out x e) (none_free c f)

    -- the answer of admit is the one that its four tests give
    is_admits : (a k : Bool) (h o : Option ℕ) → is_serial x ≡ a → is_cradle c ≡ k → held_cradle_index x s ≡ h → holder (cradle s c) ≡ o →
        admit_verdict s x c ≡ admit_outcome s x c a k h o
    is_admits a k h o p q e f = ap₂ (λ (m n : Bool). admit_outcome s x c m n (held_cradle_index x s) (holder (cradle s c))) p q
        ∙ ap₂ (λ (m n : Option ℕ). admit_outcome s x c a k m n) e f

    -- refused with 1, it was given no serial
    no_serial_of : IsAdmitOutcome (refusal 1 []) → IsSerial x → ⊥
    no_serial_of (no_serial n) = n

    -- refused with 2, it was given a serial, and no cradle
    no_cradle_of : IsAdmitOutcome (refusal 2 []) → IsSerial x × (IsCradle c → ⊥)
    no_cradle_of (no_cradle p n) = (p, n)

    -- refused with 3, the scanner holds the cradle that the refusal names
    serial_held_of : (d : ℕ) → IsAdmitOutcome (refusal 3 (d ∷ [])) → IsSerial x × (IsCradle c × IsHolder b x d)
    serial_held_of d (serial_held _ p k h) = (p, (k, h))

    -- refused with 4, the scanner that the refusal names holds the cradle
    cradle_held_of : (y : ℕ) → IsAdmitOutcome (refusal 4 (y ∷ [])) → IsSerial x × (IsCradle c × (HoldsNoCradle b x × IsHolder b y c))
    cradle_held_of y (cradle_held _ p k n h) = (p, (k, (n, h)))

    -- accepted, serial and cradle are valid, the scanner holds none, and the cradle is free
    accepted_of : IsAdmitOutcome (Ok tt) → IsSerial x × (IsCradle c × (HoldsNoCradle b x × IsFree b c))
    accepted_of (accepted p k n f) = (p, (k, (n, f)))

    -- each answer of admit means what the book says of scanner and cradle
    pub admit_answers : AdmitAnswers w x c
    admit_answers = record {
      no_serial = (λ e. no_serial_of (subst IsAdmitOutcome e admitted_so), λ n. is_admits false _ _ _ (not_range 1 9999 x n) refl refl refl);
      no_cradle = (
        λ e. no_cradle_of (subst IsAdmitOutcome e admitted_so),
        λ r.
            is_admits true false _ _ (range_in 1 9999 x r.0) (not_range 1 128 c r.1) refl refl,
      );
      serial_held = λ d. (
        λ e. serial_held_of d (subst IsAdmitOutcome e admitted_so),
        λ r. is_admits true true (Some (d - 1)) _ (range_in 1 9999 x r.0) (range_in 1 128 c r.1.0) (held_there x d r.1.1) refl
            ∙ ap (λ n. refusal 3 (n ∷ [])) (let k = (holds_there x d r.1.1).0 in omega (arith, k.0)),
      );
      cradle_held = λ y. (
        λ e. cradle_held_of y (subst IsAdmitOutcome e admitted_so),
        λ r. is_admits true true None (Some y) (range_in 1 9999 x r.0) (range_in 1 128 c r.1.0) (out_none x r.1.1.0) (holds_there y c r.1.1.1).1,
      );
      accepted = (
        λ e. accepted_of (subst IsAdmitOutcome e admitted_so),
        λ r. is_admits true true None None (range_in 1 9999 x r.0) (range_in 1 128 c r.1.0) (out_none x r.1.1.0) (free_none c r.1.0 r.1.1.1),
      );
    }

  -- Remove, and a card call: both look for the seat.

  module _ (x : ℕ) where
    -- what the search finds: no serial, one that sits nowhere, or its cradle
    data FindsSeat : Bool → Option ℕ → Type 0 where
      out : {o : Option ℕ} → (IsSerial x → ⊥) → FindsSeat false o
      nowhere : IsSerial x → (HasSeat b x → ⊥) → FindsSeat true None
      sits : (c : ℕ) → IsSeated b x (c + 1) → FindsSeat true (Some c)

    -- the search finds what the book says of the serial
    looked : FindsSeat (is_serial x) (seat_index x s)
    looked = go (is_serial x) (seat_index x s) refl refl
      where
        go : (a : Bool) (o : Option ℕ) → is_serial x ≡ a → seat_index x s ≡ o → FindsSeat a o
        go false o p e = out (λ r. true≢false (sym (range_in 1 9999 x r) ∙ p))
        go true None p e = nowhere (in_range 1 9999 x p)
            (λ t. let h = seat_there x t.0 t.1 in found_nowhere s sound.cradle_count occupant x e t.0 h.0 h.1)
        go true (Some i) p e = let h = found_at s sound.cradle_count occupant x i e in sits i (seat_written (i + 1) x h.0 h.1)

    -- the verdict of a call that looks for the seat and then does something
    abbrev seat_verdict : (Option ℕ → Verdict (Unit {0})) → Bool → Option ℕ → Verdict (Unit {0})
    seat_verdict next a o = cond (not a) (refusal 1 []) (next o)

    module _ (next : Option ℕ → Verdict (Unit {0})) where
      -- the verdict is the one that these results of test and search give
      is_looking : (a : Bool) (o : Option ℕ) → is_serial x ≡ a → seat_index x s ≡ o → seat_verdict next (is_serial x) (seat_index x s) ≡ seat_verdict next a o
      is_looking a o p e = ap₂ (seat_verdict next) p e

      -- where it is found
      at_seat : (c : ℕ) → IsSeated b x c → seat_verdict next (is_serial x) (seat_index x s) ≡ next (Some (c - 1))
      at_seat c t = is_looking true (Some (c - 1)) (serial_there x c t) (sits_found x c t)

      -- refused with 1 or 5, where what comes next is refused with 5 only there
      module _ (nowhere_is : next None ≡ refusal 5 []) (not_one : (i : ℕ) → next (Some i) ≡ refusal 1 [] → ⊥)
          (not_five : (i : ℕ) → next (Some i) ≡ refusal 5 [] → ⊥) where
        -- it is refused with 1 exactly if it is given no serial
        no_serial_is : (seat_verdict next (is_serial x) (seat_index x s) ≡ refusal 1 []) ↔ (IsSerial x → ⊥)
        no_serial_is = (go (is_serial x) (seat_index x s) looked, λ n. is_looking false _ (not_range 1 9999 x n) refl)
          where
            go : (a : Bool) (o : Option ℕ) → FindsSeat a o → seat_verdict next a o ≡ refusal 1 [] → IsSerial x → ⊥
            go false o (out n) e = n
            go true None (nowhere p n) e = absurd (numbers_apart 5 1 (omega arith) (sym nowhere_is ∙ e))
            go true (Some i) (sits _ t) e = absurd (not_one i e)

        -- it is refused with 5 exactly if the scanner sits nowhere
        not_seated_is : (seat_verdict next (is_serial x) (seat_index x s) ≡ refusal 5 []) ↔ (IsSerial x × (HasSeat b x → ⊥))
        not_seated_is = (
          go (is_serial x) (seat_index x s) looked,
          λ r. is_looking true None (range_in 1 9999 x r.0) (nowhere_none x r.1) ∙ nowhere_is,
        )
          where
            go : (a : Bool) (o : Option ℕ) → FindsSeat a o → seat_verdict next a o ≡ refusal 5 [] → IsSerial x × (HasSeat b x → ⊥)
            go false o (out n) e = absurd (numbers_apart 1 5 (omega arith) e)
            go true None (nowhere p n) e = (p, n)
            go true (Some i) (sits _ t) e = absurd (not_five i e)

        -- and what is neither is next where it sits
        at_some : (v : Verdict (Unit {0})) → (v ≡ refusal 1 [] → ⊥) → (v ≡ refusal 5 [] → ⊥) → seat_verdict next (is_serial x) (seat_index x s) ≡ v →
            (i : ℕ) × (IsSeated b x (i + 1) × (next (Some i) ≡ v))
        at_some v one five = go (is_serial x) (seat_index x s) looked
          where
            go : (a : Bool) (o : Option ℕ) → FindsSeat a o → seat_verdict next a o ≡ v → (i : ℕ) × (IsSeated b x (i + 1) × (next (Some i) ≡ v))
            go false o (out n) e = absurd (one (sym e))
            go true None (nowhere p n) e = absurd (five (sym e ∙ nowhere_is))
            go true (Some i) (sits _ t) e = (i, (t, e))

    -- Remove.

    -- each answer of remove means what the book says of the scanner
    pub remove_answers : RemoveAnswers w x
    remove_answers = record {
      no_serial = no_serial_is (remove_seat_verdict s) refl not_one not_five;
      not_seated = not_seated_is (remove_seat_verdict s) refl not_one not_five;
      departing = (
        λ e. let r = at_some (remove_seat_verdict s) refl not_one not_five (refusal 6 []) (numbers_apart 6 1 (omega arith))
            (numbers_apart 6 5 (omega arith)) e in
            of_list x (departs_there x (r.0 + 1) r.1.0 ∙ trip_of 6 [] (has_departure (cradle s (r.0 + 1))) r.1.1),
        λ d. let t = departing_written x d in
            at_seat (remove_seat_verdict s) t.0 t.1 ∙ ap (refusal_if 6 []) (here t.0 t.1 ∙ sym (departs_there x t.0 t.1) ∙ listed x d),
      );
      accepted = (
        λ e. let r = at_some (remove_seat_verdict s) refl not_one not_five (Ok tt) (ok_apart 1) (ok_apart 5) e in (
          (r.0 + 1, r.1.0),
          λ d. true≢false (sym (listed x d) ∙ departs_there x (r.0 + 1) r.1.0 ∙ free_of 6 [] (has_departure (cradle s (r.0 + 1))) r.1.1),
        ),
        λ r. at_seat (remove_seat_verdict s) r.0.0 r.0.1
            ∙ ap (refusal_if 6 []) (here r.0.0 r.0.1 ∙ sym (departs_there x r.0.0 r.0.1) ∙ false_from_ne_true _ (λ e. r.1 (of_list x e))),
      );
    }
      where
        not_one : (i : ℕ) → remove_seat_verdict s (Some i) ≡ refusal 1 [] → ⊥
        not_one i = no_other 6 [] 1 (omega arith) (has_departure (cradle s (i + 1)))

        not_five : (i : ℕ) → remove_seat_verdict s (Some i) ≡ refusal 5 [] → ⊥
        not_five i = no_other 6 [] 5 (omega arith) (has_departure (cradle s (i + 1)))

        here : (c : ℕ) → IsSeated b x c → has_departure (cradle s (c - 1 + 1)) ≡ has_departure (cradle s c)
        here c t = let k = (seat_there x c t).0 in let same : c - 1 + 1 ≡ c = omega (arith, k.0) in ap (λ n. has_departure (cradle s n)) same

    -- A card call.

    -- each answer of a card call means what the book says of the scanner, and of the buffer's size
    pub card_answers : (buffer : List ℕ) → CardAnswers w x buffer
    card_answers buffer = record {
      no_serial = no_serial_is (card_seat_verdict buffer) refl not_one not_five;
      not_seated = not_seated_is (card_seat_verdict buffer) refl not_one not_five;
      no_room = (
        λ e. let r = at_some (card_seat_verdict buffer) refl not_one not_five (refusal 12 (39 ∷ []))
            (numbers_apart 12 1 (omega arith)) (numbers_apart 12 5 (omega arith)) e in
            ((r.0 + 1, r.1.0), ltb-true (length buffer) 39 (trip_of 12 (39 ∷ []) (ltb (length buffer) 39) r.1.1)),
        λ r. at_seat (card_seat_verdict buffer) r.0.0 r.0.1 ∙ ap (refusal_if 12 (39 ∷ [])) (lt-ltb (length buffer) 39 r.1),
      );
      accepted = (
        λ e. let r = at_some (card_seat_verdict buffer) refl not_one not_five (Ok tt) (ok_apart 1) (ok_apart 5) e in
            ((r.0 + 1, r.1.0), ltb-false (length buffer) 39 (free_of 12 (39 ∷ []) (ltb (length buffer) 39) r.1.1)),
        λ r. at_seat (card_seat_verdict buffer) r.0.0 r.0.1 ∙ ap (refusal_if 12 (39 ∷ [])) (le-ltb (length buffer) 39 r.1),
      );
    }
      where
        not_one : (i : ℕ) → card_seat_verdict buffer (Some i) ≡ refusal 1 [] → ⊥
        not_one i = no_other 12 (39 ∷ []) 1 (omega arith) (ltb (length buffer) 39)

        not_five : (i : ℕ) → card_seat_verdict buffer (Some i) ≡ refusal 5 [] → ⊥
        not_five i = no_other 12 (39 ∷ []) 5 (omega arith) (ltb (length buffer) 39)
