-- A publishing keeps what the players of stays do.
use Rattle.std.proofs.Common.{◌≡◌, ℕ, ◌+◌, ◌≤◌, Bool, true, false, not, ◌&&◌, List, ◌∷◌, ◌++◌, length, Ok, replicate, refl, sym, ap, ◌∙◌, subst, inl, inr}
use Rattle.std.proofs.Common.{arith}
use Rattle.std.specs.Result.{result_unwrap_or}
use Rattle.std.proofs.lemmas.Bool.{and_from, cases_eq, false_from_ne_true}
use Rattle.refusal.specs.Refusals.{Verdict}
use Rattle.tree.specs.declared.types.Code.TheVariants.{Stays}
use Rattle.tree.specs.Tree.{IsLeaf}
use Rattle.tree.specs.Rows.{code_at, is_changed}
use Rattle.tree.proofs.Halvings.{within_self}
use Rattle.tree.proofs.Standing.{changed_inner}
use Rattle.keys.specs.declared.NodeKey.{NodeKey}
use Rattle.keys.specs.Names.{Keys, keys_in}
use Rattle.server_rules.specs.declared.state.State.{State}
use Rattle.server_rules.specs.States.{cradle, row}
use Rattle.cradles.specs.Draws.{is_arrival_code, is_emptying_code}
use Rattle.server_rules.specs.Calls.{publish, Publishing, IsGivenLawfully}
use Rattle.server_rules.specs.Publishings.{publish_plan_verdict}
use Rattle.server_rules.specs.Steps.{server_of_next_epoch}
use Rattle.server_rules.specs.Sound.{IsSoundServer}
use Rattle.cradles.specs.Cradles.{IsCradle}
use Rattle.server_rules.specs.Laws.{IsRenewal, StateLaws}
use Rattle.player_rules.specs.Rings.{entry_bytes, ring_bytes, path_entries}
use Rattle.player_rules.specs.Players.{PlayerNumbers, player_numbers, Player, waiting, seated, read_verdict, show_verdict, is_player_refused, player_after}
use Rattle.player_rules.specs.Players.{ring_after, enrol_verdict, ring_after_enrol}
use Rattle.player_rules.specs.Laws.{PlayerLaws}
use Rattle.tree.proofs.Members.{In, in_contains, contains_in}
use Rattle.law.proofs.InBook.{IsStayIn}
use Rattle.law.proofs.Readings.{staying_reads, arriving_reads}
use Rattle.law.specs.Book.{Book, Seat, Stay, book_of_next_epoch, stay_to}
use Rattle.law.specs.Runs.{Edition, Site}
use Rattle.law.specs.Players.{Course, files_from_to, card_of, read_of}
use Rattle.law.specs.Readers.{IsPlannedPublishing, ReadsPublishing}
use Rattle.law.proofs.SteadyStays.{leaf_at}
use Rattle.server_rules.proofs.Rows.{cradled_leaf}
use Rattle.law.proofs.NextSteadyStays.{stays_on, arrived, departed, ended_before}
use Rattle.law.proofs.Agreement.{seats_next, ended_next}
use Rattle.law.proofs.Editions.{new_edition, site_of_next_epoch, bytes_are}
use Rattle.law.proofs.SoundSites.{IsSoundSite, epochs_past}
use Rattle.law.proofs.Cards.{card_enrols, card_enters}
use Rattle.law.proofs.Courses.{after_last, after_none, from_to_past, from_to_now, from_to_none}
use Rattle.law.proofs.StayPlayers.{MatchesServer, HoldsKeyAt, SeatPlays, StayPlays, waiting_reads, seated_reads, enrolled_ring}

-- a stay that has ended is no seat any more
ended_not_seat : (w : Site) → IsSoundSite w → (u : Stay) → In u w.book.ended → In u.seat w.book.seats → ⊥
ended_not_seat w kept u i j =
    let was = kept.steady.ended_are u i in
    let is = kept.steady.seats_are u.seat j in
    omega (
      arith,
      was.over,
      kept.steady.holders_last (leaf_at u.seat) (omega arith) u (inr i) (within_self (leaf_at u.seat))
          (omega (arith, is.since), omega (arith, is.since, was.began.1)),
    )

module _ (laws : StateLaws) (players : PlayerLaws) (w : Site) (sound : IsSoundServer w.server) (kept : IsSoundSite w) (p : Publishing)
    (given : IsGivenLawfully (publish p))
    (ok : publish_plan_verdict w.server p ≡ Ok tt) (since : IsSoundServer (server_of_next_epoch w.server p.material))
    (next : IsSoundSite (site_of_next_epoch w p)) where
  -- the server
  abbrev s : State
  s = w.server

  -- the book
  abbrev b : Book
  b = w.book

  -- the keys before the change
  abbrev former : Keys
  former = keys_in s.nodes

  -- the keys after the change
  abbrev present : Keys
  present = keys_in (server_of_next_epoch s p.material).nodes

  -- the file of this publishing
  abbrev x : Edition
  x = new_edition s p

  -- what the publishing makes of the keys
  change : IsRenewal (s.epoch + 1) (row s) p.material former present
  change = laws.renewal s p.material sound

  -- the files before it are of earlier epochs
  past : (y : Edition) → In y w.files → y.notice.epoch ≤ s.epoch
  past y i = let h = epochs_past w.files b.epoch kept.in_order y i in omega (arith, h.1, kept.same_epoch)

  -- the publishing is lawful, and passes the checks before its plan
  planned : IsPlannedPublishing s p
  planned = record { given = given; sound = sound; passes = ok }

  -- who reads the file reads the published bytes, which are its own
  reading_now : (leaf : ℕ) (work ring : List ℕ) → ReadsPublishing s p leaf ring → 512 ≤ length work →
      read_verdict leaf (s.epoch + 1) p.wrap x.bytes work ring ≡ Ok (path_entries present leaf)
  reading_now leaf work ring reads room =
      ap (λ (f : List ℕ). read_verdict leaf (s.epoch + 1) p.wrap f work ring) (bytes_are laws s p given sound ok) ∙ reads work room

  module _ (t : Seat) where
    -- the player of the seat, in the new epoch
    abbrev here : Player
    here = seated (player_numbers t.serial (leaf_at t) (s.epoch + 1))

    -- it accepted all files, and has what the server has
    abbrev IsUpToDate : Bool → Player → List ℕ → Type 0
    IsUpToDate all q ring = (all ≡ true) × MatchesServer (s.epoch + 1) present t q ring

    -- and after it was handed the new file
    abbrev IsUpToDateAfter : Bool → Player → List ℕ → List ℕ → Type 0
    IsUpToDateAfter all q ring work =
        IsUpToDate (all && not (is_player_refused (read_of x work) q ring)) (player_after (read_of x work) q ring)
        (ring_after (read_of x work) q ring)

    -- the ring with the new keys
    abbrev new_ring : List ℕ
    new_ring = ring_bytes (path_entries present (leaf_at t))

    -- the player reads the new file
    abbrev Reads : Player → List ℕ → List ℕ → Type 0
    Reads q ring work =
        (is_player_refused (read_of x work) q ring ≡ false)
        × ((player_after (read_of x work) q ring ≡ here) × (ring_after (read_of x work) q ring ≡ new_ring))

    -- a player that reads the new file is up to date after it
    there : (all : Bool) (q r : Player) (ring work : List ℕ) → all ≡ true → q ≡ r → Reads r ring work → IsUpToDateAfter all q ring work
    there all q r ring work a e h = (
      and_from all (not (is_player_refused (read_of x work) q ring)) a
          (ap (λ u. not (is_player_refused (read_of x work) u ring)) e ∙ ap not h.0),
      record {
        is_seated = ap (λ u. player_after (read_of x work) u ring) e ∙ h.1.0;
        holds = ap (λ u. ring_after (read_of x work) u ring) e ∙ h.1.1;
      },
    )

    -- whatever its course was so far
    abbrev CatchesUp : List ℕ → Type 0
    CatchesUp key = (all : Bool) (q : Player) (ring work : List ℕ) → 512 ≤ length work →
        Course (card_of t key) (files_from_to t.first s.epoch w.files) all q ring →
        IsUpToDateAfter all q ring work

    -- so it is where the server is
    module _ (key : List ℕ) (low : t.first ≤ s.epoch + 1) (does : CatchesUp key) where
      -- after all files, the new one among them, it is up to date
      plays_on : (all : Bool) (q : Player) (ring : List ℕ) → Course (card_of t key) (files_from_to t.first (s.epoch + 1) (x ∷ w.files)) all q ring →
          IsUpToDate all q ring
      plays_on all q ring c =
          after_last players (card_of t key) x (files_from_to t.first s.epoch w.files) IsUpToDate does all q ring
          (subst (λ (l : List Edition). Course (card_of t key) l all q ring) (from_to_now w.files s.epoch past x refl t.first low) c)

    -- who stays
    module _ (i : In t b.seats) (code_is : code_at (row s) (leaf_at t) ≡ Stays) (key : List ℕ) (old : SeatPlays s.epoch former w.files t key) where
      -- its cradle's leaf is a leaf
      stays_leaf : IsLeaf (leaf_at t)
      stays_leaf = cradled_leaf t.cradle (kept.steady.seats_are t i).cradled

      -- the key of its leaf stays the same
      leaf_kept : present (leaf_at t) ≡ former (leaf_at t)
      leaf_kept = change.others_kept (leaf_at t)
          (false_from_ne_true (is_changed (row s) (leaf_at t)) (λ y. omega (arith, (changed_inner (row s) (leaf_at t) y).1, stays_leaf.0)))
          (λ l. (ap is_arrival_code code_is, ap is_emptying_code code_is))

      -- handed the new file, it catches up
      stays_does : CatchesUp key
      stays_does all q ring work room c =
          let h = old.plays all q ring c in
          let me = player_numbers t.serial (leaf_at t) s.epoch in
          let r = staying_reads s p planned (leaf_at t) ring (record { is_leaf = stays_leaf; stays = code_is; holds = h.1.holds }) in
          there all q (seated me) ring work h.0 h.1.is_seated
          (seated_reads me (s.epoch + 1) p.wrap x.bytes work ring (path_entries present (leaf_at t)) (reading_now (leaf_at t) work ring r room) refl)

      -- who stays plays on in the new epoch, with the same key on its card
      staying : SeatPlays (s.epoch + 1) present (x ∷ w.files) t key
      staying = record {
        is_key = old.is_key ∙ ap (λ (k : NodeKey). k.key) (sym leaf_kept);
        plays = plays_on key (omega (arith, (kept.steady.seats_are t i).began.1, kept.same_epoch)) stays_does;
      }

    -- who arrives
    module _ (cradled : IsCradle t.cradle) (first : t.first ≡ s.epoch + 1) (joined : is_arrival_code (code_at (row s) (leaf_at t)) ≡ true)
        (i : In t (book_of_next_epoch b).seats) where
      -- the key of its leaf after the change
      abbrev new_key : List ℕ
      new_key = (present (leaf_at t)).key

      -- enrolling with its card is accepted, with the numbers of the seat
      enrols : (ring : List ℕ) → length ring ≡ 288 → enrol_verdict (card_of t new_key) ring ≡ Ok (player_numbers t.serial (leaf_at t) t.first)
      enrols ring room = card_enrols t new_key (next.serials.seats t i) cradled (omega arith) (omega (arith, since.epoch_range))
          (since.keys_sized (leaf_at t)).0 ring room

      -- just enrolled, it catches up with the new file
      arrives_does : CatchesUp new_key
      arrives_does all q ring work room c =
          after_none players (card_of t new_key) (λ a u v. IsUpToDateAfter a u v work)
          does all q ring
          (subst (λ (l : List Edition). Course (card_of t new_key) l all q ring)
          (ap (λ n. files_from_to n s.epoch w.files) first ∙ from_to_none w.files s.epoch past x refl) c)
        where
          does : (ring : List ℕ) (c : PlayerNumbers) → enrol_verdict (card_of t new_key) ring ≡ Ok c →
              IsUpToDateAfter true (waiting c) (ring_after_enrol (card_of t new_key) ring) work
          does ring c e =
              let long = enrolled_ring (card_of t new_key) ring c e in
              let me = player_numbers t.serial (leaf_at t) t.first in
              let mine = ring_after_enrol (card_of t new_key) ring in
              let is : c ≡ me = ap (λ (v : Verdict PlayerNumbers). result_unwrap_or v c) (sym e ∙ enrols ring long) in
              let made = change.arrival_new (leaf_at t) (cradled_leaf t.cradle cradled) joined in
              let enters : mine ≡ entry_bytes (present (leaf_at t)) ++ replicate 252 0 =
              card_enters t new_key (next.serials.seats t i) cradled (omega arith) (omega (arith, since.epoch_range))
              (since.keys_sized (leaf_at t)).0 ring long
              ∙ ap (λ n. entry_bytes (record { made = n; key = new_key }) ++ replicate 252 0) (first ∙ sym made) in
              let r = arriving_reads s p planned (leaf_at t) mine
              (record { is_leaf = cradled_leaf t.cradle cradled; arrives = joined; holds = enters }) in
              there true (waiting c) (waiting me) mine work refl (ap waiting is)
              (waiting_reads me (s.epoch + 1) p.wrap x.bytes work mine (path_entries present (leaf_at t)) (reading_now (leaf_at t) work mine r room) first)

      -- who arrives plays from the new epoch on, with the new key of its leaf
      arriving : SeatPlays (s.epoch + 1) present (x ∷ w.files) t new_key
      arriving = record { is_key = refl; plays = plays_on new_key (omega arith) arrives_does }

    -- in the new epoch it holds the group key, and what it held in earlier ones does not change
    newest : IsLeaf (leaf_at t) → (key : List ℕ) → SeatPlays (s.epoch + 1) present (x ∷ w.files) t key → HoldsKeyAt (x ∷ w.files) t key (s.epoch + 1)
    newest leaf key plays all q ring c = let h = plays.plays all q ring c in
        record {
          accepted_all = h.0;
          is_seated = h.1.is_seated;
          file = x;
          is_file = in_contains (x ∷ w.files) x (inl refl);
          is_epoch = refl;
          shows = ap show_verdict h.1.holds ∙ players.shows_root present (leaf_at t) leaf (λ n. (since.keys_sized n).0)
              ∙ ap Ok (sym (next.newest x (inl refl) refl));
        }

    -- it holds the group key of any epoch that is the new one
    newest_at : IsLeaf (leaf_at t) → (key : List ℕ) → SeatPlays (s.epoch + 1) present (x ∷ w.files) t key → (e : ℕ) → e ≡ s.epoch + 1 →
        HoldsKeyAt (x ∷ w.files) t key e
    newest_at leaf key plays e now = subst (HoldsKeyAt (x ∷ w.files) t key) (sym now) (newest leaf key plays)

    -- the group key of an earlier epoch is held as before
    older : (key : List ℕ) (e : ℕ) → e ≤ s.epoch → HoldsKeyAt w.files t key e → HoldsKeyAt (x ∷ w.files) t key e
    older key e l old all q ring c =
        let h = old all q ring (subst (λ (l : List Edition). Course (card_of t key) l all q ring) (from_to_past w.files s.epoch past x refl t.first e l) c) in
        record {
          accepted_all = h.accepted_all;
          is_seated = h.is_seated;
          file = h.file;
          is_file = in_contains (x ∷ w.files) h.file (inr (contains_in w.files h.file h.is_file));
          is_epoch = h.is_epoch;
          shows = h.shows;
        }

  module _ (gives : Seat → List ℕ → Type 0) (given_past : (t : Seat) (card : List ℕ) → gives t card → t.first ≤ b.epoch)
      (plays : (u : Stay) → IsStayIn b u → StayPlays s.epoch former b.seats w.files gives u) where
    -- what the players of a stay do, with the file of this publishing
    abbrev StayPlaysNext : Stay → Type 0
    StayPlaysNext u = StayPlays (s.epoch + 1) present (book_of_next_epoch b).seats (x ∷ w.files) gives u

    -- a stay that was one before, up to an epoch before this one
    over : (u : Stay) → StayPlays s.epoch former b.seats w.files gives u → u.last ≤ s.epoch → In u (book_of_next_epoch b).ended → StayPlaysNext u
    over u old l i = record {
      key = old.key;
      enrols = old.enrols;
      cards_are = old.cards_are;
      holds = λ e c. older u.seat old.key e (omega (arith, c.1)) (old.holds e c);
      as_seat = λ j. absurd (ended_not_seat (site_of_next_epoch w p) next u i j);
    }

    -- the player of a seat that stays does what it should
    stays_next : (u : Stay) → u.last ≡ b.epoch + 1 → In u.seat b.seats → code_at (row s) (leaf_at u.seat) ≡ Stays → StayPlaysNext u
    stays_next u l i code_is =
        let old = plays (stay_to b.epoch u.seat) (inl (i, refl)) in
        let on = staying u.seat i code_is old.key (old.as_seat i) in
        record {
          key = old.key;
          enrols = old.enrols;
          cards_are = old.cards_are;
          holds = λ e c. elim (cases_eq e (s.epoch + 1)) [
            | inl q ↦ newest_at u.seat (stays_leaf u.seat i code_is old.key (old.as_seat i)) old.key on e q
            | inr n ↦ older u.seat old.key e (omega (arith, c.1, kept.same_epoch)) (old.holds e (c.0, omega (arith, c.1, kept.same_epoch)))
          ];
          as_seat = λ j. on;
        }

    -- the player of a seat that just arrived does what it should
    arrives_next : (u : Stay) → u.last ≡ b.epoch + 1 → In u.seat (book_of_next_epoch b).seats → IsCradle u.seat.cradle → u.seat.first ≡ b.epoch + 1 →
        is_arrival_code (code_at (row s) (leaf_at u.seat)) ≡ true → StayPlaysNext u
    arrives_next u l i cradled first joined =
        let now : u.seat.first ≡ s.epoch + 1 = first ∙ ap (λ n. n + 1) (sym kept.same_epoch) in
        let on = arriving u.seat cradled now joined i in
        record {
          key = (present (leaf_at u.seat)).key;
          enrols = enrols u.seat cradled now joined i;
          cards_are = λ card g. absurd (omega (arith, given_past u.seat card g));
          holds = λ e c. let q : e ≡ s.epoch + 1 = omega (arith, c.0, c.1, kept.same_epoch) in
              newest_at u.seat (cradled_leaf u.seat.cradle cradled) (present (leaf_at u.seat)).key on e q;
          as_seat = λ j. on;
        }

    -- the player of every stay does what it should in the next epoch
    pub plays_next : (u : Stay) → IsStayIn (book_of_next_epoch b) u → StayPlaysNext u
    plays_next u (inl (i, l)) = elim (seats_next (cradle s) b kept.agrees (row s) (λ c k. laws.code_at_leaf s c sound k) u.seat i) [
      | stays_on h code_is ↦ stays_next u l h code_is
      | arrived cradled first joined ↦ arrives_next u l i cradled first joined
    ]
    plays_next u (inr i) = elim (ended_next (cradle s) b kept.agrees (row s) (λ c k. laws.code_at_leaf s c sound k) u i) [
      | departed h d l ↦ over u (plays u (inl (h, l))) (omega (arith, l, kept.same_epoch)) i
      | ended_before h ↦ over u (plays u (inr h)) (omega (arith, (kept.steady.ended_are u h).over, kept.same_epoch)) i
    ]
