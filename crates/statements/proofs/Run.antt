-- The worked run.
use Rattle.std.proofs.Common.{◌≡◌, ℕ, ◌≤◌, ◌<◌, Bool, true, not, ◌&&◌, ◌⊎◌, List, [], ◌∷◌, ◌++◌, length, take, Ok}
use Rattle.std.proofs.Common.{refl, sym, ap, ◌∙◌, subst, subst₂, inl, inr, lit<, lit≤, arith, is_err, drop, take_at, Contains}
use Rattle.std.proofs.lemmas.List.{length-take-le}
use Rattle.refusal.specs.Refusals.{Verdict, new_or_old}
use Rattle.tree.proofs.Members.{In, in_contains, contains_in}
use Rattle.server_rules.specs.declared.state.State.{State}
use Rattle.server_rules.specs.declared.state.PublishReport.{PublishReport}
use Rattle.server_rules.specs.States.{row, has_notes}
use Rattle.server_rules.specs.Calls.{Publishing, Call, admit, remove, publish, card}
use Rattle.keys.specs.Names.{keys_in}
use Rattle.tree.specs.Tree.{is_within, tree_leaves, inner_nodes}
use Rattle.tree.specs.Rows.{stands_within, is_changed, changed_nodes}
use Rattle.cradles.specs.Draws.{arrival_leaves, emptied_leaves, drawn_size}
use Rattle.server_rules.specs.Cards.{card_verdict}
use Rattle.server_rules.specs.Publishings.{publishing_size, publishing_report, file_after_publish}
use Rattle.server_rules.specs.Steps.{server_of_next_epoch}
use Rattle.player_rules.specs.Players.{Player, waiting, PlayerCall, enrol_verdict, ring_after_enrol, is_player_refused}
use Rattle.law.specs.Book.{Seat, Stay, Book, book_after, book_of_next_epoch, IsStay, IsMember}
use Rattle.law.specs.Runs.{Edition, group_key, verdict_editions, Site, site_after, site_of, AllGivenLawfully, server_of, book_of, files_of}
use Rattle.law.specs.Players.{IsGivenCard, card_of, Course, enrolled, aside, handed, own, files_from_to, Enrols, HoldsGroupKey, read_of}
use Rattle.law.specs.Law.{LawHoldsAfter}
use Rattle.law.proofs.EveryRun.{every_run}
use Rattle.law.proofs.InBook.{IsStayIn, stay_in, in_stay}
use Rattle.statements.specs.Ample.{IsAmple}
use Rattle.statements.specs.Examples.{first_change}
use Rattle.statements.specs.Run.{first_calls, all_calls, seat_1001, seat_1002, last_book, card_1001, numbers_1001}
use Rattle.statements.specs.Run.{player_1001_after, ring_1001_after, PlayerExampleHolds, ReachesGroupKey, RunExampleHolds, RunExamplesHold}
use Rattle.statements.proofs.Ample.{ample_publishes}
use Rattle.statements.proofs.Changes.{sound, IsReady, first_ready}

-- what an ample publishing of a server makes public
abbrev edition_of : State → Publishing → Edition
edition_of s p = record {
  notice = publishing_report s p;
  wrap = p.wrap;
  drawn = take (drawn_size (row s)) p.material;
  bytes = take (publishing_size s p) (file_after_publish s p);
}

-- and what it makes of a site
abbrev site_after_ample : Site → Publishing → Site
site_after_ample w p = record {
  server = server_of_next_epoch w.server p.material;
  book = book_of_next_epoch w.book;
  files = edition_of w.server p ∷ w.files;
}

module _ (calls : List Call) (ready : IsReady calls) (p : Publishing) (a : IsAmple p) where
  -- after calls that are ready, an ample publishing leads to that site
  published_site : site_of (publish p ∷ calls) ≡ site_after_ample (site_of calls) p
  published_site =
      ap (λ (v : Verdict PublishReport). record {
        server = new_or_old v (server_of_next_epoch (server_of calls) p.material) (server_of calls);
        book = book_after (site_of calls).book (publish p) (is_err v);
        files = verdict_editions p.wrap p.material v (file_after_publish (server_of calls) p) ++ (site_of calls).files;
      })
      (ample_publishes (server_of calls) (sound calls ready) ready.noted ready.early p a)

module _ (p q : Publishing) (buffer : List ℕ) (a : IsAmple p) (b : IsAmple q) (room : 39 ≤ length buffer) where
  -- after epoch 1 begins
  seated_site : site_of (first_calls p) ≡ site_after_ample (site_of first_change) p
  seated_site = published_site first_change first_ready p a

  -- 1001 is seated then
  was_seat : Contains (book_of (first_calls p)).seats seat_1001
  was_seat = subst (λ (w : Site). Contains w.book.seats seat_1001) (sym seated_site) (in_contains (seat_1001 ∷ []) seat_1001 (inl refl))

  -- the law holds then
  first_law : LawHoldsAfter (first_calls p)
  first_law = every_run (first_calls p) (a.given, (tt, tt))

  -- 1001 may have its card then
  card_accepted : card_verdict (server_of (first_calls p)) 1001 buffer ≡ Ok tt
  card_accepted = (first_law.cards seat_1001 was_seat buffer room).0

  -- the key of leaf 128 is drawn from the first 32 bytes of the material
  key_drawn : (keys_in (server_of_next_epoch (server_of first_change) p.material).nodes 128).key ≡ take 32 p.material
  unfolding arrival_leaves emptied_leaves is_within tree_leaves inner_nodes stands_within is_changed changed_nodes
  key_drawn = refl

  -- the leaf key of 1001 is the first that was drawn
  the_key : (keys_in (server_of (first_calls p)).nodes 128).key ≡ take 32 p.material
  the_key = ap (λ (w : Site). (keys_in w.server.nodes 128).key) seated_site ∙ key_drawn

  -- the card of 1001 is that of its seat, with the first key that was drawn
  card_bytes : card_1001 p buffer ≡ card_of seat_1001 (take 32 p.material)
  card_bytes =
      let long : length (take 32 p.material) ≡ 32 = omega (arith, length-take-le 32 p.material (omega (arith, a.material))) in
      ap (take 39) (first_law.cards seat_1001 was_seat buffer room).1
      ∙ ap (λ k. take 39 (card_of seat_1001 k ++ drop 39 buffer)) the_key
      ∙ take_at (card_of seat_1001 (take 32 p.material)) (drop 39 buffer) 39 (omega (arith, long))

  -- before epoch 2 begins
  abbrev noted_calls : List Call
  noted_calls = admit 1002 1 ∷ remove 1001 ∷ card 1001 buffer ∷ first_calls p

  -- the site that they lead to
  abbrev noted_site : Site
  noted_site = site_after (site_after (site_after_ample (site_of first_change) p) (remove 1001)) (admit 1002 1)

  -- the card call changes nothing
  carded : site_of (card 1001 buffer ∷ first_calls p) ≡ site_of (first_calls p)
  carded =
      let w = site_of (first_calls p) in
      ap (λ (v : Verdict (Unit {0})). record w { book = book_after w.book (card 1001 buffer) (is_err v) }) card_accepted

  -- the calls before epoch 2 lead to that site
  noted_so : site_of noted_calls ≡ noted_site
  noted_so = ap (λ (w : Site). site_after (site_after w (remove 1001)) (admit 1002 1)) (carded ∙ seated_site)

  -- these calls are lawfully given
  noted_given : AllGivenLawfully noted_calls
  noted_given = (tt, (tt, (tt, (a.given, (tt, tt)))))

  -- all calls of the run
  abbrev all : List Call
  all = all_calls p q buffer

  -- the whole run leads to what the second publishing makes of that site
  whole_site : site_of all ≡ site_after_ample noted_site q
  whole_site =
      published_site noted_calls (record {
        given = noted_given;
        noted = ap (λ (w : Site). has_notes w.server) noted_so;
        early = subst (λ (w : Site). w.server.epoch < 1000000) (sym noted_so) (lit< tt);
      }) q b
      ∙ ap (λ (w : Site). site_after_ample w q) noted_so

  -- at the end 1002 is seated, and the stay of 1001 has ended
  book : book_of all ≡ last_book
  book = ap (λ (w : Site). w.book) whole_site

  -- the law holds after the whole run
  law : LawHoldsAfter all
  law = every_run all (b.given, noted_given)

  -- the card was given in this run, while 1001 was seated
  card_given : IsGivenCard all seat_1001 (card_1001 p buffer)
  card_given = record {
    later = publish q ∷ admit 1002 1 ∷ remove 1001 ∷ [];
    earlier = first_calls p;
    buffer = buffer;
    is_call = refl;
    was_seat = was_seat;
    was_accepted = card_accepted;
    was_written = refl;
  }

  -- The player of 1001.

  -- the file of epoch 1
  abbrev first_edition : Edition
  first_edition = edition_of (server_of first_change) p

  -- the run made two files public, that of epoch 1 and then another
  both_files : files_of all ≡ edition_of noted_site.server q ∷ first_edition ∷ []
  both_files = ap (λ (w : Site). w.files) whole_site

  -- of the files from epoch 1 to epoch 1 there is that one alone
  one_file : files_from_to 1 1 (files_of all) ≡ first_edition ∷ []
  one_file = ap (files_from_to 1 1) both_files

  -- no other file has epoch 1
  first_only : (x : Edition) → Contains (files_of all) x → x.notice.epoch ≡ 1 → x ≡ first_edition
  first_only x i e = go (subst (λ (l : List Edition). In x l) both_files (contains_in (files_of all) x i))
    where
      go : In x (edition_of noted_site.server q ∷ first_edition ∷ []) → x ≡ first_edition
      go (inl s) = let two : x.notice.epoch ≡ 2 = ap (λ (y : Edition). y.notice.epoch) s in absurd (omega (arith, e, two))
      go (inr (inl s)) = s
      go (inr (inr other)) = absurd other

  -- the stay of 1001
  abbrev former_stay : Stay
  former_stay = record { seat = seat_1001; last = 1 }

  -- it is a stay of the book at the end
  is_former : IsStay (book_of all) former_stay
  is_former = subst (λ (k : Book). IsStay k former_stay) (sym book) (in_stay last_book former_stay (inr (inl refl)))

  -- the card of 1001
  abbrev the_card : List ℕ
  the_card = card_1001 p buffer

  -- the card enrols a player, which holds the group key of epoch 1 after that epoch's file
  holds : Enrols seat_1001 the_card × ((accepted : Bool) (player : Player) (ring : List ℕ) →
      Course the_card (files_from_to 1 1 (files_of all)) accepted player ring →
      HoldsGroupKey (files_of all) seat_1001 1 accepted player ring)
  holds = law.members_hold former_stay 1 is_former (lit≤ tt, lit≤ tt) the_card card_given

  module _ (ring work : List ℕ) (whole : length ring ≡ 288) (long : 512 ≤ length work) where
    -- the card enrols a player on this ring
    enrols : enrol_verdict the_card ring ≡ Ok numbers_1001
    enrols = holds.0 ring whole

    -- the refused read stands in the course
    refused_course : Course the_card [] true (waiting numbers_1001) (ring_after_enrol the_card ring)
    refused_course = aside (read_of first_edition []) own (inr refl) (enrolled ring numbers_1001 enrols)

    -- the read of the first file
    abbrev the_read : PlayerCall
    the_read = read_of first_edition work

    -- whether the course has accepted all files by then
    abbrev accepts : Bool
    accepts = true && not (is_player_refused the_read (waiting numbers_1001) (ring_after_enrol the_card ring))

    -- the player after the read
    abbrev player_then : Player
    player_then = player_1001_after the_read the_card ring

    -- its ring after the read
    abbrev ring_then : List ℕ
    ring_then = ring_1001_after the_read the_card ring

    -- with that read the course has gone through the files of epoch 1
    whole_course : Course the_card (files_from_to 1 1 (files_of all)) accepts player_then ring_then
    whole_course =
        subst (λ (l : List Edition). Course the_card l accepts player_then ring_then) (sym one_file) (handed first_edition work long refused_course)

    -- after it the player holds the group key of epoch 1
    holder : HoldsGroupKey (files_of all) seat_1001 1 accepts player_then ring_then
    holder = holds.1 accepts player_then ring_then whole_course

    -- what is claimed of a player on this ring, with these working bytes
    player : PlayerExampleHolds (files_of all) the_card ring work
    player = record {
      file = first_edition;
      is_only = one_file;
      enrols = enrols;
      refused_read = inr refl;
      course_then = refused_course;
      same_player = refl;
      same_ring = refl;
      course =
          subst₂ (λ (a : Bool) (p : Player). Course the_card (files_from_to 1 1 (files_of all)) a p ring_then)
          holder.accepted_all holder.is_seated whole_course;
      shows = holder.shows ∙ ap (λ (x : Edition). Ok (group_key x)) (first_only holder.file holder.is_file holder.is_epoch);
    }

  -- Who was a member when.

  -- 1001 was a member in epoch 1 alone, 1002 in epoch 2 alone, and nobody else ever
  members : (x e : ℕ) → IsMember (book_of all) x e → ((x ≡ 1001) × (e ≡ 1)) ⊎ ((x ≡ 1002) × (e ≡ 2))
  members x e m = go (stay_in last_book m.stay (subst (λ (k : Book). IsStay k m.stay) book m.is_stay))
    where
      go : IsStayIn last_book m.stay → ((x ≡ 1001) × (e ≡ 1)) ⊎ ((x ≡ 1002) × (e ≡ 2))
      go (inl (inl s, l)) =
          let serial : m.stay.seat.serial ≡ 1002 = ap (λ (t : Seat). t.serial) s in
          let first : m.stay.seat.first ≡ 2 = ap (λ (t : Seat). t.first) s in
          inr (sym m.has_serial ∙ serial, omega (arith, first, l, m.covers.0, m.covers.1))
      go (inl (inr other, l)) = absurd other
      go (inr (inl s)) =
          let serial : m.stay.seat.serial ≡ 1001 = ap (λ (t : Stay). t.seat.serial) s in
          let first : m.stay.seat.first ≡ 1 = ap (λ (t : Stay). t.seat.first) s in
          let last : m.stay.last ≡ 1 = ap (λ (t : Stay). t.last) s in
          inl (sym m.has_serial ∙ serial, omega (arith, first, last, m.covers.0, m.covers.1))
      go (inr (inr other)) = absurd other

  -- a scanner reaches what it was a member in, and nothing else
  reaches : (x e : ℕ) → IsMember (book_of all) x e → ReachesGroupKey (site_of all) x e
  reaches x e m = (law.reached_by_members (x ∷ []) e).1 (x, (in_contains (x ∷ []) x (inl refl), m))

  -- 1001 reaches the key of epoch 1 alone, 1002 that of epoch 2 alone, and nobody else any
  reached_in : (x e : ℕ) → ReachesGroupKey (site_of all) x e → ((x ≡ 1001) × (e ≡ 1)) ⊎ ((x ≡ 1002) × (e ≡ 2))
  reached_in x e r = let some = (law.reached_by_members (x ∷ []) e).0 r in
      go some.0 some.1.1 (contains_in (x ∷ []) some.0 some.1.0)
    where
      go : (y : ℕ) → IsMember (book_of all) y e → In y (x ∷ []) → ((x ≡ 1001) × (e ≡ 1)) ⊎ ((x ≡ 1002) × (e ≡ 2))
      go y m (inl s) = members x e (subst (λ (z : ℕ). IsMember (book_of all) z e) s m)
      go y m (inr other) = absurd other

  -- so any other pair of a scanner and an epoch is out of reach
  misses : (x e : ℕ) → ((x ≡ 1001) × (e ≡ 1) → ⊥) → ((x ≡ 1002) × (e ≡ 2) → ⊥) → ReachesGroupKey (site_of all) x e → ⊥
  misses x e f g r = elim (reached_in x e r) [ inl h ↦ f h | inr h ↦ g h ]

  -- the stay of 1002
  abbrev present_stay : Stay
  present_stay = record { seat = seat_1002; last = 2 }

  -- it is a stay of the book at the end
  is_present : IsStay (book_of all) present_stay
  is_present = subst (λ (k : Book). IsStay k present_stay) (sym book) (in_stay last_book present_stay (inl (inl refl, refl)))

  -- what this run comes to
  pub run_example : RunExampleHolds p q buffer
  run_example = record {
    book = book;
    card = card_bytes;
    card_given = card_given;
    player = player;
    key_1_by_1001 = reaches 1001 1 (record { stay = former_stay; is_stay = is_former; has_serial = refl; covers = (lit≤ tt, lit≤ tt) });
    key_2_not_by_1001 = misses 1001 2 (λ h. omega (arith, h.1)) (λ h. omega (arith, h.0));
    key_2_by_1002 = reaches 1002 2 (record { stay = present_stay; is_stay = is_present; has_serial = refl; covers = (lit≤ tt, lit≤ tt) });
    key_1_not_by_1002 = misses 1002 1 (λ h. omega (arith, h.0)) (λ h. omega (arith, h.1));
  }

-- it comes to this with any ample publishings, and any buffer with room for the card
pub run_examples : RunExamplesHold
run_examples p q buffer a b room = run_example p q buffer a b room
