-- Who is in a cradle, or noted there, stands so in the book, and who was in one stays a member in the epoch of that moment.
use Rattle.std.proofs.Common.{◌≡◌, ℕ, zero, suc, ◌+◌, ◌-◌, Bool, true, false, not, List, [], ◌∷◌, ◌++◌, map, filter, get_or, replicate, Some, None, Option}
use Rattle.std.proofs.Common.{refl, sym, ap, ◌∙◌, inl, inr, arith}
use Rattle.std.proofs.Math.ListN.{get_or-map}
use Rattle.std.proofs.lemmas.Bool.{cases_eq}
use Rattle.std.proofs.lemmas.Option.{none-some}
use Rattle.tree.proofs.Members.{In, in_left, in_right, kept_in, map_in}
use Rattle.cradles.specs.declared.Cradle.{Cradle}
use Rattle.cradles.specs.declared.Cradle.TheVariants.{Empty}
use Rattle.cradles.specs.Cradles.{occupant, noted_arrival, has_departure, with_arrival, with_departure, without_notes, after_change, IsCradle}
use Rattle.cradles.proofs.Notes
use Rattle.server_rules.specs.States.{cradle}
use Rattle.server_rules.specs.Calls.{Call, admit, remove, drop_notes, publish, card, IsGivenLawfully}
use Rattle.server_rules.specs.Steps.{is_refused_call}
use Rattle.server_rules.specs.Sound.{IsSoundServer}
use Rattle.server_rules.specs.Laws.{StateLaws}
use Rattle.law.proofs.InBook.{SitsIn, ArrivesIn, stay_in, in_stay}
use Rattle.law.specs.Book.{Book, Seat, Arrival, IsMember, is_departing, seat_from, stay_to, book_of_next_epoch, book_with_call, book_after}
use Rattle.law.specs.Runs.{Site, site_after, site_of, AllGivenLawfully}
use Rattle.law.proofs.Agreement.{ChangesOneCradle}
use Rattle.law.proofs.AcceptedCalls.{after_call, run_sound}
use Rattle.law.proofs.SoundSites.{IsSoundSite, run_kept, one_other}

-- what the cradles, by their numbers, say stands in the book, and whose departure is noted there sits somewhere
pub record IsRecorded (cradles : ℕ → Cradle) (b : Book) : Type 0 where
  pub seat : (c x : ℕ) → IsCradle c → occupant (cradles c) ≡ Some x → SitsIn b x c
  pub arrival : (c x : ℕ) → IsCradle c → noted_arrival (cradles c) ≡ Some x → ArrivesIn b x c
  pub departing : (x : ℕ) → In x b.departures → (c : ℕ) × SitsIn b x c

-- a noted arrival by its serial and its cradle
abbrev arrival : ℕ → ℕ → Arrival
arrival x c = record { serial = x; cradle = c }

module _ (before after : ℕ → Cradle) (b : Book) (old : IsRecorded before b) where
  -- with an arrival noted, what the cradles say still stands in the book
  admit_writes : (x c : ℕ) → ChangesOneCradle before after c (with_arrival (before c) x) → IsRecorded after (book_with_call b (admit x c))
  admit_writes x c o = record { seat = sits; arrival = comes; departing = old.departing }
    where
      here : (d : ℕ) → d ≡ c → after d ≡ with_arrival (before d) x
      here d q = rw q o.here

      sits : (d y : ℕ) → IsCradle d → occupant (after d) ≡ Some y → SitsIn b y d
      sits d y k e = elim (cases_eq d c) [
        | inl q ↦ old.seat d y k (sym (ap occupant (here d q) ∙ Notes.arrival_seated (before d) x) ∙ e)
        | inr n ↦ old.seat d y k (sym (ap occupant (o.elsewhere d k n)) ∙ e)
      ]

      comes : (d y : ℕ) → IsCradle d → noted_arrival (after d) ≡ Some y → ArrivesIn (book_with_call b (admit x c)) y d
      comes d y k e = elim (cases_eq d c) [
        | inl q ↦ elim (Notes.arrival_from (before d) x y (sym (ap noted_arrival (here d q)) ∙ e)) [
          | inl was ↦ inr (old.arrival d y k was)
          | inr is ↦ rw q (inl (ap (λ z. arrival z c) (sym is)))
        ]
        | inr n ↦ inr (old.arrival d y k (sym (ap noted_arrival (o.elsewhere d k n)) ∙ e))
      ]

  -- with a departure noted, what the cradles say still stands in the book
  remove_writes : (x c : ℕ) → IsCradle c → occupant (before c) ≡ Some x → ChangesOneCradle before after c (with_departure (before c)) →
      IsRecorded after (book_with_call b (remove x))
  remove_writes x c k s o = record {
    seat = λ d y h e. old.seat d y h (sym (same occupant Notes.departure_seated d h) ∙ e);
    arrival = λ d y h e. old.arrival d y h (sym (same noted_arrival Notes.departure_awaited d h) ∙ e);
    departing = λ y i. elim i [ inl q ↦ rw q (c, old.seat c x k s) | inr j ↦ old.departing y j ];
  }
    where
      same : (f : Cradle → Option ℕ) → ((k : Cradle) → f (with_departure k) ≡ f k) → (d : ℕ) → IsCradle d → f (after d) ≡ f (before d)
      same f h d k = elim (cases_eq d c) [
        | inl q ↦ rw q (ap f o.here ∙ h (before c))
        | inr n ↦ ap f (o.elsewhere d k n)
      ]

  -- with all notes cleared, what the cradles say still stands in the book
  drop_writes : ((d : ℕ) → IsCradle d → after d ≡ without_notes (before d)) → IsRecorded after (book_with_call b drop_notes)
  drop_writes each = record {
    seat = λ d y k e. old.seat d y k (sym (ap occupant (each d k) ∙ Notes.cleared_seated (before d)) ∙ e);
    arrival = λ d y k e. absurd (none-some y (sym (ap noted_arrival (each d k) ∙ Notes.cleared_awaits (before d)) ∙ e));
    departing = λ x i. absurd i;
  }

  -- with all notes carried out, what the cradles say still stands in the book
  publish_writes : ((d : ℕ) → IsCradle d → after d ≡ after_change (before d)) →
      ((t : Seat) → In t b.seats → is_departing b t ≡ has_departure (before t.cradle)) →
      IsRecorded after (book_of_next_epoch b)
  publish_writes each same_departure = record {
    seat = λ d y k e. elim (Notes.carried_from (before d) y (sym (ap occupant (each d k)) ∙ e)) [
      | inl r ↦
          let s = old.seat d y k r.0 in
          let stays : is_departing b s.0 ≡ false = same_departure s.0 s.1.0 ∙ ap (λ n. has_departure (before n)) s.1.1.1 ∙ r.1 in (
            s.0,
            (
              in_right (map (seat_from (b.epoch + 1)) b.arrivals) (filter (λ t. not (is_departing b t)) b.seats) s.0
                  (kept_in (λ t. not (is_departing b t)) b.seats s.0 s.1.0 (ap not stays)),
              s.1.1,
            ),
          )
      | inr w ↦
          let a = arrival y d in (
            seat_from (b.epoch + 1) a,
            (
              in_left (map (seat_from (b.epoch + 1)) b.arrivals) (filter (λ t. not (is_departing b t)) b.seats) (seat_from (b.epoch + 1) a)
                  (map_in (seat_from (b.epoch + 1)) b.arrivals a (old.arrival d y k w)),
              (refl, refl),
            ),
          )
    ];
    arrival = λ d y k e. absurd (none-some y (sym (ap noted_arrival (each d k) ∙ Notes.carried_awaits (before d)) ∙ e));
    departing = λ x i. absurd i;
  }

-- a member in an epoch stays one
member_next : (b : Book) (x e : ℕ) → IsMember b x e → IsMember (book_of_next_epoch b) x e
member_next b x e m = elim (stay_in b m.stay m.is_stay) [
  | inl i ↦ seat i.0 i.1 (is_departing b m.stay.seat) refl
  | inr i ↦ record {
    stay = m.stay;
    is_stay = in_stay (book_of_next_epoch b) m.stay (inr (in_right (map (stay_to b.epoch) (filter (is_departing b) b.seats)) b.ended m.stay i));
    has_serial = m.has_serial;
    covers = m.covers;
  }
]
  where
    seat : In m.stay.seat b.seats → m.stay.last ≡ b.epoch → (d : Bool) → is_departing b m.stay.seat ≡ d → IsMember (book_of_next_epoch b) x e
    seat i l true d = record {
      stay = stay_to b.epoch m.stay.seat;
      is_stay = in_stay (book_of_next_epoch b) (stay_to b.epoch m.stay.seat)
          (inr (in_left (map (stay_to b.epoch) (filter (is_departing b) b.seats)) b.ended (stay_to b.epoch m.stay.seat)
          (map_in (stay_to b.epoch) (filter (is_departing b) b.seats) m.stay.seat (kept_in (is_departing b) b.seats m.stay.seat i d))));
      has_serial = m.has_serial;
      covers = (m.covers.0, omega (arith, m.covers.1, l));
    }
    seat i l false d = record {
      stay = stay_to (b.epoch + 1) m.stay.seat;
      is_stay = in_stay (book_of_next_epoch b) (stay_to (b.epoch + 1) m.stay.seat) (inl (
        in_right (map (seat_from (b.epoch + 1)) b.arrivals) (filter (λ t. not (is_departing b t)) b.seats) m.stay.seat
            (kept_in (λ t. not (is_departing b t)) b.seats m.stay.seat i (ap not d)),
        refl,
      ));
      has_serial = m.has_serial;
      covers = (m.covers.0, omega (arith, m.covers.1, l));
    }

-- no call takes a membership out of the book
member_told : (b : Book) (c : Call) (r : Bool) (x e : ℕ) → IsMember b x e → IsMember (book_after b c r) x e
member_told b c true x e m = m
member_told b (admit y d) false x e m = record { stay = m.stay; is_stay = m.is_stay; has_serial = m.has_serial; covers = m.covers }
member_told b (remove y) false x e m = record { stay = m.stay; is_stay = m.is_stay; has_serial = m.has_serial; covers = m.covers }
member_told b drop_notes false x e m = record { stay = m.stay; is_stay = m.is_stay; has_serial = m.has_serial; covers = m.covers }
member_told b (publish p) false x e m = member_next b x e m
member_told b (card y buffer) false x e m = m

-- of a site: what its server's cradles say stands in its book
abbrev pub IsSiteRecorded : Site → Type 0
IsSiteRecorded w = IsRecorded (cradle w.server) w.book

-- after any call, what the cradles say still stands in the book
written_next : (w : Site) → IsSoundServer w.server → IsSoundSite w → IsSiteRecorded w → (c : Call) → IsGivenLawfully c → IsSiteRecorded (site_after w c)
written_next w sound kept old = after_call IsSiteRecorded w sound (record {
  admits = λ x c ok i k e. admit_writes (cradle w.server) _ w.book old x c (one_other w.server c (with_arrival (cradle w.server c) x) sound.cradle_count k);
  removes = λ x i k is. remove_writes (cradle w.server) _ w.book old x (i + 1) k is
      (one_other w.server (i + 1) (with_departure (cradle w.server (i + 1))) sound.cradle_count k);
  drops = drop_writes (cradle w.server) _ w.book old (λ d h. get_or-map without_notes w.server.cradles (d - 1) Empty);
  publishes = λ p given ok. publish_writes (cradle w.server) _ w.book old
      (λ d k. get_or-map after_change w.server.cradles (d - 1) Empty) (λ t i. (kept.agrees.sit t i).same_departure);
}) old

-- nobody is in a cradle of a new server, and nobody is awaited there
none_at : (f : Cradle → Option ℕ) → f Empty ≡ None → (c x : ℕ) → f (cradle (site_of []).server c) ≡ Some x → ⊥
none_at f none c x e = none-some x (sym (ap f (empty 128 (c - 1)) ∙ none) ∙ e)
  where
    empty : (k n : ℕ) → get_or (replicate k Empty) n Empty ≡ Empty
    empty zero n = refl
    empty (suc k) zero = refl
    empty (suc k) (suc n) = empty k n

module _ (laws : StateLaws) where
  -- after any calls what the cradles say stands in the book
  pub run_written : (calls : List Call) → AllGivenLawfully calls → IsSiteRecorded (site_of calls)
  run_written [] given = record {
    seat = λ c x k e. absurd (none_at occupant refl c x e);
    arrival = λ c x k e. absurd (none_at noted_arrival refl c x e);
    departing = λ x i. absurd i;
  }
  run_written (c ∷ earlier) given =
      written_next (site_of earlier) (run_sound laws earlier given.1) (run_kept laws earlier given.1) (run_written earlier given.1) c given.0

  -- who is in a cradle is a member in the server's epoch
  now_member : (calls : List Call) → AllGivenLawfully calls → (c x : ℕ) → IsCradle c → occupant (cradle (site_of calls).server c) ≡ Some x →
      IsMember (site_of calls).book x (site_of calls).server.epoch
  now_member calls given c x k e =
      let s = (run_written calls given).seat c x k e in
      let kept = run_kept laws calls given in
      record {
        stay = stay_to (site_of calls).book.epoch s.0;
        is_stay = in_stay (site_of calls).book (stay_to (site_of calls).book.epoch s.0) (inl (s.1.0, refl));
        has_serial = s.1.1.0;
        covers = (omega (arith, (kept.steady.seats_are s.0 s.1.0).began.1, kept.same_epoch), omega (arith, kept.same_epoch));
      }

  -- who was in a cradle stays a member in the epoch of that moment, whatever is called later
  pub members_seated : (later earlier : List Call) → AllGivenLawfully (later ++ earlier) → (c x : ℕ) → IsCradle c →
      occupant (cradle (site_of earlier).server c) ≡ Some x →
      IsMember (site_of (later ++ earlier)).book x (site_of earlier).server.epoch
  members_seated [] earlier given c x k e = now_member earlier given c x k e
  members_seated (d ∷ later) earlier given c x k e =
      let w = site_of (later ++ earlier) in
      member_told w.book d (is_refused_call w.server d) x (site_of earlier).server.epoch (members_seated later earlier given.1 c x k e)
