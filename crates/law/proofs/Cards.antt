-- The card of a seat: what the card call writes, and that enrolling with it is accepted.
use Rattle.std.proofs.Common.{◌≡◌, ℕ, ◌+◌, ◌-◌, ◌≤◌, inl, inr, is_err, ap₂, true, not, cond, List, [], ◌∷◌, ◌++◌, length, drop, min, Some, None, Ok, Option}
use Rattle.std.proofs.Common.{leb, ltb, eqb, replicate, refl, sym, ap, ◌∙◌, arith}
use Rattle.std.proofs.lemmas.Bool.{and_parts, and_from, leb-true, le-leb, le-ltb, lt-ltb, cases_lt, true≢false}
use Rattle.std.proofs.lemmas.List.{take_all}
use Rattle.std.specs.Int.{is_in_range}
use Rattle.byte_strings.specs.Strings.{part}
use Rattle.byte_strings.specs.Numbers.{be_bytes4, be_number2, be_number4}
use Rattle.refusal.specs.Refusals.{Verdict, refusal, new_or_old}
use Rattle.file_rules.proofs.Places.{big2_back, big4_back, number4_at}
use Rattle.cradles.specs.Cradles.{occupant, IsCradle}
use Rattle.server_rules.specs.declared.state.State.{State}
use Rattle.server_rules.specs.States.{cradle, leaf_of, seat_index}
use Rattle.keys.specs.Limits.{is_serial}
use Rattle.server_rules.specs.Cards.{card_seat_verdict, card_verdict, card_bytes, buffer_with_card, buffer_after_card}
use Rattle.server_rules.specs.Sound.{IsSoundServer}
use Rattle.player_rules.specs.Rings.{entry_bytes}
use Rattle.player_rules.specs.Players.{PlayerNumbers, player_numbers, card_fault, fault_or, enrol_verdict, ring_after_enrol}
use Rattle.law.specs.Book.{Seat}
use Rattle.law.specs.Players.{card_of}
use Rattle.law.proofs.CradleSearches.{found_there}

-- the cradle of a scanner is found
module _ (s : State) (sound : IsSoundServer s) (c x : ℕ) (k : IsCradle c) (sits : occupant (cradle s c) ≡ Some x) where
  -- the search finds the cradle in which the scanner sits
  seat_found : seat_index x s ≡ Some (c - 1)
  seat_found = found_there s sound.cradle_count occupant x (λ d e. sound.seats_apart d e x) c k sits

  module _ (buffer : List ℕ) (serial : is_serial x ≡ true) where
    -- a card call for who is seated depends on the size of the buffer alone
    by_seat : card_verdict s x buffer ≡ cond (ltb (length buffer) 39) (refusal 12 (39 ∷ [])) (Ok tt)
    by_seat = ap (λ b. cond (not b) (refusal 1 []) (card_seat_verdict buffer (seat_index x s))) serial ∙ ap (card_seat_verdict buffer) seat_found

    -- with room for a card the call is accepted
    pub card_accepted : 39 ≤ length buffer → card_verdict s x buffer ≡ Ok tt
    card_accepted room = by_seat ∙ ap (λ b. cond b (refusal 12 (39 ∷ [])) (Ok tt)) (le-ltb (length buffer) 39 room)

    -- a call that is accepted was lent room for a card
    pub card_room : card_verdict s x buffer ≡ Ok tt → 39 ≤ length buffer
    card_room ok = elim (cases_lt (length buffer) 39) [
      | inl short ↦
          let no : refusal 12 (39 ∷ []) ≡ Ok tt =
          sym (by_seat ∙ ap (λ b. cond b (refusal 12 (39 ∷ [])) (Ok tt)) (lt-ltb (length buffer) 39 short)) ∙ ok in
          absurd (true≢false (ap is_err no))
      | inr room ↦ room
    ]

    -- the card is written at the front, and the rest of the buffer stays
    pub card_written : 39 ≤ length buffer → buffer_after_card s x buffer ≡ card_bytes s x c ++ drop 39 buffer
    card_written room =
        let same : c - 1 + 1 ≡ c = omega arith in
        ap (λ (v : Verdict (Unit {0})). new_or_old v (buffer_with_card s x buffer (seat_index x s)) buffer) (card_accepted room)
        ∙ ap (buffer_with_card s x buffer) seat_found
        ∙ ap (λ d. card_bytes s x d ++ drop 39 buffer) same

module _ (t : Seat) (key : List ℕ) (serial : is_serial t.serial ≡ true) (k : IsCradle t.cradle) (low : 1 ≤ t.first) (high : t.first ≤ 1000000)
    (size : length key ≡ 32) (ring : List ℕ) (room : length ring ≡ 288) where
  -- the card of the seat with that key
  abbrev card : List ℕ
  card = card_of t key

  -- the card has 39 bytes
  long : length card ≡ 39
  long = omega (arith, size)

  -- its first two bytes are the serial
  serial_there : be_number2 card 0 ≡ t.serial
  serial_there = big2_back t.serial (leaf_of t.cradle ∷ (be_bytes4 t.first ++ key))
      (omega (arith, leb-true t.serial 9999 (and_parts (leb 1 t.serial) (leb t.serial 9999) serial).1))

  -- its four bytes from the fourth on are the first epoch of the seat
  epoch_there : be_number4 card 3 ≡ t.first
  epoch_there = number4_at card (be_bytes4 t.first ++ key) 3 refl ∙ big4_back t.first key (omega arith)

  -- the card has no fault
  faultless_card : card_fault card ≡ None
  faultless_card =
      ap (λ n. cond (not (eqb n 39)) (Some (min n 39)) others) long
      ∙ ap (λ n. cond (not (is_in_range 1 9999 n)) (Some 0) rest) serial_there
      ∙ ap (λ b. cond (not b) (Some 0) rest) serial
      ∙ ap (λ b. cond (not b) (Some 2) last) (and_from (leb 128 (leaf_of t.cradle)) (leb (leaf_of t.cradle) 255)
      (le-leb 128 (leaf_of t.cradle) (omega arith)) (le-leb (leaf_of t.cradle) 255 (omega arith)))
      ∙ ap (λ n. cond (not (is_in_range 1 1000000 n)) (Some 3) None) epoch_there
      ∙ ap (λ b. cond (not b) (Some 3) None) (and_from (leb 1 t.first) (leb t.first 1000000) (le-leb 1 t.first low) (le-leb t.first 1000000 high))
    where
      last : Option ℕ
      last = cond (not (is_in_range 1 1000000 (be_number4 card 3))) (Some 3) None

      rest : Option ℕ
      rest = cond (not (is_in_range 128 255 (leaf_of t.cradle))) (Some 2) last

      others : Option ℕ
      others = cond (not (is_in_range 1 9999 (be_number2 card 0))) (Some 0) rest

  -- enrolling with the card is accepted, with the numbers of the seat
  pub card_enrols : enrol_verdict card ring ≡ Ok (player_numbers t.serial (leaf_of t.cradle) t.first)
  card_enrols =
      ap (λ n. cond (not (eqb n 288)) (refusal 14 []) (fault_or 13 (card_fault card) (Ok read))) room
      ∙ ap (λ o. fault_or 13 o (Ok read)) faultless_card
      ∙ ap₂ (λ x e. Ok (player_numbers x (leaf_of t.cradle) e)) serial_there epoch_there
    where
      read : PlayerNumbers
      read = player_numbers (be_number2 card 0) (leaf_of t.cradle) (be_number4 card 3)

  -- enrolling enters the leaf's key into the ring, and clears the rest
  pub card_enters : ring_after_enrol card ring ≡ entry_bytes (record { made = t.first; key = key }) ++ replicate 252 0
  card_enters =
      ap (λ (v : Verdict PlayerNumbers). new_or_old v (part 36 3 card ++ replicate 252 0) ring) card_enrols
      ∙ ap (λ (l : List ℕ). l ++ replicate 252 0) (take_all 36 (be_bytes4 t.first ++ key) (omega (arith, size)))
