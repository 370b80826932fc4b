-- After any calls, group keys are reached exactly by members.
use Rattle.std.proofs.Common.{ℕ, ◌<◌, ◌≤◌, ◌↔◌, List, refl, sym, ap, subst, inl, inr, arith, length, ◌≡◌, Ok, ◌++◌, drop, ◌∙◌, [], ◌∷◌, Bool, true, replicate}
use Rattle.std.proofs.Common.{lit≤, take, take_at, Contains}
use Rattle.keys.specs.declared.KeyName.{KeyName}
use Rattle.keys.specs.Names.{key_name, keys_in}
use Rattle.server_rules.specs.Sound.{IsSoundServer}
use Rattle.server_rules.proofs.EveryCall.{state_laws}
use Rattle.player_rules.proofs.EveryPlayer.{player_laws}
use Rattle.tree.proofs.Members.{In, in_map, falling_in, in_contains, contains_in}
use Rattle.law.proofs.InBook.{IsStayIn, stay_in}
use Rattle.law.specs.Book.{Stay, Covers, IsMember}
use Rattle.server_rules.specs.Calls.{Call}
use Rattle.server_rules.specs.Calls as calling
use Rattle.law.specs.Runs.{Site, Edition, site_of, AllGivenLawfully}
use Rattle.chains.specs.Chains.{IsReached}
use Rattle.law.specs.Links.{IsLink}
use Rattle.law.specs.Law.{IsPublishedEpoch, IsLeafKeyOf, SomeIsMember, HasStayUnder, LawHoldsAfter}
use Rattle.chains.proofs.Chains.{IsReachedByLinks, given, opened, followed_more, followed, reached}
use Rattle.law.proofs.SteadyStays.{leaf_at}
use Rattle.byte_strings.specs.Numbers.{be_bytes2, be_bytes4}
use Rattle.server_rules.specs.Cards.{card_verdict, buffer_after_card}
use Rattle.law.specs.Players.{IsGivenCard, Enrols, Course, enrolled, handed, files_from_to}
use Rattle.player_rules.specs.Players.{PlayerNumbers, Player, waiting, enrol_verdict, ring_after_enrol}
use Rattle.law.proofs.Records.{IsSiteRecorded, run_written, members_seated}
use Rattle.law.proofs.BookAnswers.{same_cradles, admit_answers, remove_answers, card_answers}
use Rattle.law.proofs.CheckedProperties.{all_have}
use Rattle.law.specs.Law.{MembersHold, CoursesExist, present_card}
use Rattle.law.specs.Book.{Seat}
use Rattle.law.proofs.Cards.{card_accepted, card_written}
use Rattle.law.proofs.RunPlayers.{PlaysAfter, playing}
use Rattle.law.proofs.AcceptedCalls.{run_sound}
use Rattle.law.proofs.SoundSites.{IsSoundSite, run_kept, epochs_past}

module _ (w : Site) (kept : IsSoundSite w) (serials : List ℕ) where
  -- no stay ends before it began
  lasts : (s : Stay) → IsStayIn w.book s → s.seat.first ≤ s.last
  lasts s (inl i) = omega (arith, (kept.steady.seats_are s.seat i.0).began.1, i.1)
  lasts s (inr i) = (kept.steady.ended_are s i).began.1

  -- a key that is reached link by link has one of their stays beneath its node, in its epoch
  holds : {n : KeyName} → IsReachedByLinks (IsLeafKeyOf w.book serials) (IsLink w.files) n → HasStayUnder w.book serials n
  holds {n} (given k) = record {
    stay = k.stay;
    is_stay = k.is_stay;
    is_theirs = k.is_theirs;
    is_node = subst (λ (m : KeyName). 0 < m.node) k.is_name (omega arith);
    beneath = (0, ap (λ (m : KeyName). m.node) k.is_name);
    covers = subst (λ (m : KeyName). Covers k.stay m.epoch) k.is_name (omega arith, lasts k.stay (stay_in w.book k.stay k.is_stay));
  }
  holds (opened {m} {n} l r) =
      let h = holds r in
      let link = kept.steady.links_right m n l in
      let s = link.right h.stay (stay_in w.book h.stay h.is_stay) h.beneath h.covers in
      record { stay = h.stay; is_stay = h.is_stay; is_theirs = h.is_theirs; is_node = link.content_node; beneath = s.0; covers = s.1 }

  -- a key that is reached has one of their stays beneath its node, in its epoch
  by_stays : (name : KeyName) → IsReached (IsLeafKeyOf w.book serials) (IsLink w.files) name → HasStayUnder w.book serials name
  by_stays name r = holds (followed (IsLeafKeyOf w.book serials) (IsLink w.files) name r)

  -- they reach the group key only of an epoch in which one of them was a member
  only_members : (e : ℕ) → IsReached (IsLeafKeyOf w.book serials) (IsLink w.files) (key_name 1 e) → SomeIsMember w.book serials e
  only_members e r =
      let h = by_stays (key_name 1 e) r in
      (h.stay.seat.serial, (h.is_theirs, record { stay = h.stay; is_stay = h.is_stay; has_serial = refl; covers = h.covers }))

  -- they reach the group key of each epoch in which one of them was a member
  all_members : (e : ℕ) → SomeIsMember w.book serials e → IsReached (IsLeafKeyOf w.book serials) (IsLink w.files) (key_name 1 e)
  all_members e (x, (i, m)) =
      reached (IsLeafKeyOf w.book serials) (IsLink w.files)
      (followed_more
      (λ n is. record { stay = m.stay; is_stay = m.is_stay; is_theirs = subst (λ (y : ℕ). Contains serials y) (sym m.has_serial) i; is_name = is })
      (λ a b l. l)
      (kept.steady.history m.stay (stay_in w.book m.stay m.is_stay) e m.covers))

module _ (calls : List Call) (sound : IsSoundServer (site_of calls).server) (kept : IsSoundSite (site_of calls)) (plays : PlaysAfter calls)
    (given_all : AllGivenLawfully calls) where
  -- the site
  abbrev w : Site
  w = site_of calls

  -- the published epochs are those from 1 to the book's
  published_epochs : (e : ℕ) → IsPublishedEpoch w e ↔ ((1 ≤ e) × (e ≤ w.book.epoch))
  published_epochs e = (to, from)
    where
      to : IsPublishedEpoch w e → (1 ≤ e) × (e ≤ w.book.epoch)
      to p = subst (λ (n : ℕ). (1 ≤ n) × (n ≤ w.book.epoch)) p.is_epoch
          (epochs_past w.files w.book.epoch kept.in_order p.file (contains_in w.files p.file p.is_file))

      from : (1 ≤ e) × (e ≤ w.book.epoch) → IsPublishedEpoch w e
      from (low, high) =
          let r = in_map (λ x. x.notice.epoch) w.files e (subst (λ (l : List ℕ). In e l) (sym kept.in_order) (falling_in w.book.epoch e low high)) in
          record { file = r.0; is_file = in_contains w.files r.0 r.1.0; is_epoch = sym r.1.1 }

  -- who was a member in an epoch holds its group key, with a given card and the files
  members_hold : MembersHold calls
  members_hold stay e is_stay covers card handed_out =
      let p = plays.plays stay (stay_in w.book stay is_stay) in
      let one = sym (p.cards_are card handed_out) in (
        subst (Enrols stay.seat) one p.enrols,
        λ all q ring c. p.holds e covers all q ring (subst (λ (l : List ℕ). Course l (files_from_to stay.seat.first e w.files) all q ring) (sym one) c),
      )

  -- whatever is handed, there is a course
  some_course : (card ring : List ℕ) (s : PlayerNumbers) → enrol_verdict card ring ≡ Ok s → (files : List Edition) →
      (all : Bool) × ((q : Player) × ((left : List ℕ) × Course card files all q left))
  some_course card ring s e [] = (true, (waiting s, (ring_after_enrol card ring, enrolled ring s e)))
  some_course card ring s e (x ∷ files) =
      let r = some_course card ring s e files in
      (_, (_, (_, handed x (replicate 512 0) (lit≤ tt) r.1.1.1)))

  -- who was given a card can be handed the files, and accepts all of them
  courses_exist : CoursesExist calls
  courses_exist stay e is_stay covers card handed_out ring room =
      let m = members_hold stay e is_stay covers card handed_out in
      let r = some_course card ring _ (m.0 ring room) (files_from_to stay.seat.first e w.files) in
      let ok : r.0 ≡ true = (m.1 r.0 r.1.0 r.1.1.0 r.1.1.1).accepted_all in
      (r.1.0, (r.1.1.0, subst (λ (a : Bool). Course card (files_from_to stay.seat.first e w.files) a r.1.0 r.1.1.0) ok r.1.1.1))

  -- who is seated is given its present card
  cards : (t : Seat) → Contains w.book.seats t → (buffer : List ℕ) → 39 ≤ length buffer →
      (card_verdict w.server t.serial buffer ≡ Ok tt) × (buffer_after_card w.server t.serial buffer ≡ present_card calls t ++ drop 39 buffer)
  cards t i buffer room =
      let j = contains_in w.book.seats t i in
      let sits = kept.agrees.sit t j in
      let serial = kept.serials.seats t j in (
        card_accepted w.server sound t.cradle t.serial sits.cradled sits.sits buffer serial room,
        card_written w.server sound t.cradle t.serial sits.cradled sits.sits buffer serial room
            ∙ ap (λ n. (be_bytes2 t.serial ++ (leaf_at t ∷ (be_bytes4 n ++ (keys_in w.server.nodes (leaf_at t)).key))) ++ drop 39 buffer)
            (kept.steady.seats_are t j).since,
      )

  -- that card then counts as given
  cards_given : (t : Seat) → Contains w.book.seats t → (buffer : List ℕ) → 39 ≤ length buffer →
      IsGivenCard (calling.card t.serial buffer ∷ calls) t (present_card calls t)
  cards_given t i buffer room =
      let c = cards t i buffer room in
      record {
        later = [];
        earlier = calls;
        buffer = buffer;
        is_call = refl;
        was_seat = i;
        was_accepted = c.0;
        was_written = sym (ap (take 39) c.1 ∙ take_at (present_card calls t) (drop 39 buffer) 39 (omega (arith, (sound.keys_sized (leaf_at t)).0)));
      }

  -- what the server's cradles say stands in the book
  written : IsSiteRecorded w
  written = run_written state_laws calls given_all

  -- the whole law holds after these calls
  group_keys : LawHoldsAfter calls
  group_keys = record {
    reached_by_members = λ serials e. (only_members w kept serials e, all_members w kept serials e);
    reached_by_stays = by_stays w kept;
    members_hold = members_hold;
    courses_exist = courses_exist;
    published = published_epochs;
    in_order = kept.in_order;
    same_epoch = kept.same_epoch;
    newest = λ x i. kept.newest x (contains_in w.files x i);
    readable = λ x i. kept.all_readable x (contains_in w.files x i);
    seats = λ t i. let j = contains_in w.book.seats t i in ((kept.agrees.sit t j).sits, (kept.steady.seats_are t j).since);
    seated_members = λ later earlier e c x k h. subst (λ (l : List Call). IsMember (site_of l).book x (site_of earlier).server.epoch) (sym e)
        (members_seated state_laws later earlier (subst AllGivenLawfully e given_all) c x k h);
    same_cradles = same_cradles w sound kept written;
    admit_answers = admit_answers w sound kept written;
    remove_answers = remove_answers w sound kept written;
    card_answers = card_answers w sound kept written;
    cards = cards;
    cards_given = cards_given;
    all_checked = λ property checked. all_have property checked calls given_all;
    sound = sound;
  }

-- after any calls that are given lawfully the law holds
pub every_run : (calls : List Call) → AllGivenLawfully calls → LawHoldsAfter calls
every_run calls lawful =
    group_keys calls (run_sound state_laws calls lawful) (run_kept state_laws calls lawful) (playing state_laws player_laws calls lawful) lawful
