-- What the players of stays do, after any calls.
use Rattle.std.proofs.Common.{◌≡◌, ℕ, ◌≤◌, Bool, true, false, ◌⊎◌, List, [], ◌∷◌, ◌++◌, length, take, drop, Some, None, Ok, Err, Option, sym, ap, ◌∙◌, subst}
use Rattle.std.proofs.Common.{inl, inr, arith, take_at, Contains}
use Rattle.byte_strings.specs.Numbers.{be_bytes2, be_bytes4}
use Rattle.std.proofs.lemmas.List.{length-append}
use Rattle.refusal.specs.Refusals.{Verdict}
use Rattle.keys.specs.Names.{keys_in}
use Rattle.server_rules.specs.Calls.{Call, admit, remove, drop_notes, publish, card, Publishing, IsGivenLawfully}
use Rattle.server_rules.specs.Cards.{card_verdict, buffer_after_card}
use Rattle.server_rules.specs.Steps.{is_refused_call}
use Rattle.server_rules.specs.Sound.{IsSoundServer}
use Rattle.server_rules.specs.Laws.{StateLaws}
use Rattle.player_rules.specs.Laws.{PlayerLaws}
use Rattle.tree.proofs.Members.{contains_in}
use Rattle.law.proofs.InBook.{IsStayIn}
use Rattle.law.specs.Book.{Book, Seat, Stay, book_after}
use Rattle.law.specs.Runs.{Site, site_after, site_of, AllGivenLawfully}
use Rattle.law.specs.Players.{IsGivenCard, card_of}
use Rattle.law.proofs.SteadyStays.{leaf_at}
use Rattle.law.proofs.Editions.{accepted_or_refused}
use Rattle.server_rules.specs.Cards.{card_bytes}
use Rattle.server_rules.specs.Notes.{admit_verdict, remove_verdict}
use Rattle.server_rules.specs.States.{seat_index}
use Rattle.law.proofs.AcceptedCalls.{site_after_admit, site_after_remove, site_after_publish, run_sound}
use Rattle.law.proofs.SoundSites.{IsSoundSite, run_kept}
use Rattle.law.proofs.Cards.{card_room, card_written}
use Rattle.law.proofs.StayPlayers.{StayPlays}
use Rattle.law.proofs.NextStayPlayers.{plays_next}

-- at a site, the players of all stays do what they should, with the cards that were given
abbrev pub PlaysAt : Site → (Seat → List ℕ → Type 0) → Type 0
PlaysAt w given = (u : Stay) → IsStayIn w.book u → StayPlays w.server.epoch (keys_in w.server.nodes) w.book.seats w.files given u

-- after these calls they do
pub record PlaysAfter (calls : List Call) : Type 0 where
  pub given_past : (t : Seat) (bytes : List ℕ) → IsGivenCard calls t bytes → t.first ≤ (site_of calls).book.epoch
  pub plays : PlaysAt (site_of calls) (IsGivenCard calls)

-- a card that was given by a call
record GivesCard (w : Site) (c : Call) (t : Seat) (bytes : List ℕ) : Type 0 where
  buffer : List ℕ
  is_call : c ≡ card t.serial buffer
  was_seat : Contains w.book.seats t
  was_accepted : card_verdict w.server t.serial buffer ≡ Ok tt
  was_written : bytes ≡ take 39 (buffer_after_card w.server t.serial buffer)

-- the first of a list, or that call
abbrev newest_call : Call → List Call → Call
newest_call d [] = d
newest_call d (c ∷ calls) = c

-- the others
abbrev earlier_calls : List Call → List Call
earlier_calls [] = []
earlier_calls (c ∷ calls) = calls

-- a card of a run was given by its last call, or before it
last_or_before : (c : Call) (earlier : List Call) (t : Seat) (bytes : List ℕ) → IsGivenCard (c ∷ earlier) t bytes →
    GivesCard (site_of earlier) c t bytes ⊎ IsGivenCard earlier t bytes
last_or_before c earlier t bytes g = go g.later g.is_call
  where
    go : (later : List Call) → c ∷ earlier ≡ later ++ (card t.serial g.buffer ∷ g.earlier) → GivesCard (site_of earlier) c t bytes ⊎ IsGivenCard earlier t bytes
    go [] e =
        let same : g.earlier ≡ earlier = sym (ap earlier_calls e) in
        inl (subst (λ (l : List Call). GivesCard (site_of l) c t bytes) same (record {
          buffer = g.buffer;
          is_call = ap (newest_call c) e;
          was_seat = g.was_seat;
          was_accepted = g.was_accepted;
          was_written = g.was_written;
        }))
    go (d ∷ later) e = inr (record {
      later = later;
      earlier = g.earlier;
      buffer = g.buffer;
      is_call = ap earlier_calls e;
      was_seat = g.was_seat;
      was_accepted = g.was_accepted;
      was_written = g.was_written;
    })

-- before the first call no card was given
none_given : (t : Seat) (bytes : List ℕ) → IsGivenCard [] t bytes → ⊥
none_given t bytes g = omega (arith, ap (λ (l : List Call). length l) g.is_call, length-append g.later (card t.serial g.buffer ∷ g.earlier))

-- the card that a card call gives to a seat
seat_card : (w : Site) → IsSoundServer w.server → IsSoundSite w → (c : Call) (t : Seat) (bytes : List ℕ) → GivesCard w c t bytes →
    bytes ≡ card_of t (keys_in w.server.nodes (leaf_at t)).key
seat_card w sound kept c t bytes g =
    let was = contains_in w.book.seats t g.was_seat in
    let sits = kept.agrees.sit t was in
    let serial = kept.serials.seats t was in
    let room = card_room w.server sound t.cradle t.serial sits.cradled sits.sits g.buffer serial g.was_accepted in
    let bytes = card_bytes w.server t.serial t.cradle in
    let leaf = keys_in w.server.nodes (leaf_at t) in
    g.was_written ∙ ap (take 39) (card_written w.server sound t.cradle t.serial sits.cradled sits.sits g.buffer serial room)
    ∙ take_at bytes (drop 39 g.buffer) 39 (omega (arith, (sound.keys_sized (leaf_at t)).0))
    ∙ ap (λ n. be_bytes2 t.serial ++ (leaf_at t ∷ (be_bytes4 n ++ leaf.key))) (kept.steady.seats_are t was).since

-- a book's epoch does not fall
told_rises : (b : Book) (c : Call) (r : Bool) → b.epoch ≤ (book_after b c r).epoch
told_rises b c true = omega arith
told_rises b (admit x c) false = omega arith
told_rises b (remove x) false = omega arith
told_rises b drop_notes false = omega arith
told_rises b (publish p) false = omega arith
told_rises b (card x buffer) false = omega arith

module _ (laws : StateLaws) (players : PlayerLaws) (c : Call) (earlier : List Call) (given : IsGivenLawfully c) (all : AllGivenLawfully earlier)
    (old : PlaysAfter earlier) where
  -- the site
  abbrev w : Site
  w = site_of earlier

  -- a card that was given by these calls
  abbrev WasGiven : Seat → List ℕ → Type 0
  WasGiven = IsGivenCard (c ∷ earlier)

  -- the server before the call is sound
  sound : IsSoundServer w.server
  sound = run_sound laws earlier all

  -- the site before the call is sound
  kept : IsSoundSite w
  kept = run_kept laws earlier all

  -- a card was given only to a seat that had begun
  given_past : (t : Seat) (bytes : List ℕ) → WasGiven t bytes → t.first ≤ w.book.epoch
  given_past t bytes g = elim (last_or_before c earlier t bytes g) [
    | inl h ↦ (kept.steady.seats_are t (contains_in w.book.seats t h.was_seat)).began.1
    | inr h ↦ old.given_past t bytes h
  ]

  -- with the cards that the call gives
  with_cards : PlaysAt w WasGiven
  with_cards u i = let it = old.plays u i in record {
    key = it.key;
    enrols = it.enrols;
    cards_are = λ bytes g. elim (last_or_before c earlier u.seat bytes g) [
      | inl h ↦ seat_card w sound kept c u.seat bytes h ∙ ap (card_of u.seat) (sym (it.as_seat (contains_in w.book.seats u.seat h.was_seat)).is_key)
      | inr h ↦ it.cards_are bytes h
    ];
    holds = it.holds;
    as_seat = it.as_seat;
  }

  -- after an admit the players of all stays do what they should
  admit_plays : (x d : ℕ) (v : Verdict (Unit {0})) → PlaysAt (site_after_admit w x d v) WasGiven
  admit_plays x d (Ok a) = with_cards
  admit_plays x d (Err f) = with_cards

  -- after a remove the players of all stays do what they should
  remove_plays : (x : ℕ) (o : Option ℕ) (v : Verdict (Unit {0})) → PlaysAt (site_after_remove w x o v) WasGiven
  remove_plays x None (Ok a) = with_cards
  remove_plays x (Some i) (Ok a) = with_cards
  remove_plays x o (Err f) = with_cards

  -- after a card call the players of all stays do what they should
  card_plays : (x : ℕ) (buffer : List ℕ) (r : Bool) →
      PlaysAt (record { server = w.server; book = book_after w.book (card x buffer) r; files = w.files }) WasGiven
  card_plays x buffer true = with_cards
  card_plays x buffer false = with_cards

  -- after a publishing the players of all stays do what they should
  publish_plays : (p : Publishing) → IsGivenLawfully (publish p) → PlaysAt (site_after w (publish p)) WasGiven
  publish_plays p g =
      accepted_or_refused w.server p
      (λ v. IsSoundServer (site_after_publish w p v).server → IsSoundSite (site_after_publish w p v) → PlaysAt (site_after_publish w p v) WasGiven)
      (λ ok since next. plays_next laws players w sound kept p g ok since next WasGiven given_past with_cards)
      (λ f since next. with_cards)
      (run_sound laws (publish p ∷ earlier) (g, all)) (run_kept laws (publish p ∷ earlier) (g, all))

-- after one call more the players of all stays do what they should
plays_then : (laws : StateLaws) (players : PlayerLaws) (c : Call) (earlier : List Call) → IsGivenLawfully c → AllGivenLawfully earlier → PlaysAfter earlier →
    PlaysAt (site_after (site_of earlier) c) (IsGivenCard (c ∷ earlier))
plays_then laws players (admit x d) earlier given all old = admit_plays laws players (admit x d) earlier given all old x d
    (admit_verdict (site_of earlier).server x d)
plays_then laws players (remove x) earlier given all old = remove_plays laws players (remove x) earlier given all old x
    (seat_index x (site_of earlier).server) (remove_verdict (site_of earlier).server x)
plays_then laws players drop_notes earlier given all old = with_cards laws players drop_notes earlier given all old
plays_then laws players (publish p) earlier given all old = publish_plays laws players (publish p) earlier given all old p given
plays_then laws players (card x buffer) earlier given all old = card_plays laws players (card x buffer) earlier given all old x buffer
    (is_refused_call (site_of earlier).server (card x buffer))

-- after any calls the players of all stays do what they should
pub playing : StateLaws → PlayerLaws → (calls : List Call) → AllGivenLawfully calls → PlaysAfter calls
playing laws players [] all = record {
  given_past = λ t bytes g. absurd (none_given t bytes g);
  plays = λ u i. elim i [ inl j ↦ absurd j.0 | inr j ↦ absurd j ];
}
playing laws players (c ∷ earlier) all =
    let old = playing laws players earlier all.1 in
    record {
      given_past = λ t bytes g. omega (
        arith,
        given_past laws players c earlier all.0 all.1 old t bytes g,
        told_rises (site_of earlier).book c (is_refused_call (site_of earlier).server c),
      );
      plays = plays_then laws players c earlier all.0 all.1 old;
    }
