-- A worked run: scanner 1001 is seated and given its card, and then 1002 takes its place. Calls and
-- files are listed the newest first.
use Rattle.std.specs.Prelude.{◌≡◌, ℕ, ◌≤◌, true, List, [], ◌∷◌, length, take, Ok}
use Rattle.keys.specs.Names.{key_name}
use Rattle.server_rules.specs.Calls.{Publishing, Call, admit, remove, publish}
use Rattle.server_rules.specs.Calls as calls
use Rattle.server_rules.specs.Cards.{buffer_after_card}
use Rattle.player_rules.specs.Players.{PlayerNumbers, player_numbers, Player, waiting, seated}
use Rattle.player_rules.specs.Players.{PlayerCall, enrol_verdict, ring_after_enrol, show_verdict}
use Rattle.player_rules.specs.Players.{player_after, ring_after}
use Rattle.law.specs.Book.{Seat, Book}
use Rattle.law.specs.Runs.{Edition, group_key, Site, site_of, server_of, book_of, files_of}
use Rattle.chains.specs.Chains.{IsReached}
use Rattle.law.specs.Links.{IsLink}
use Rattle.law.specs.Players.{IsGivenCard, Course, IsAside, files_from_to, card_of, read_of}
use Rattle.law.specs.Law.{IsLeafKeyOf}
use Rattle.statements.specs.Ample.{IsAmple}
use Rattle.statements.specs.Examples.{first_change}
use Rattle.wrap.specs.declared.working.TheConstants.{WORKING_BYTES}
use Rattle.player_rules.specs.declared.limits.TheConstants.{RING_BYTES}
use Rattle.keys.specs.declared.limits.TheConstants.{CARD_BYTES}

-- 1001 is admitted at cradle 1, and that is published
abbrev pub first_calls : Publishing → List Call
first_calls p = publish p ∷ first_change

-- then its card is asked for, it is removed, 1002 is admitted at the same cradle, and that is
-- published
abbrev pub all_calls : Publishing → Publishing → List ℕ → List Call
all_calls p q buffer =
    publish q ∷ admit 1002 1 ∷ remove 1001 ∷ calls.card 1001 buffer ∷ first_calls p

-- the seat of 1001
abbrev pub seat_1001 : Seat
seat_1001 = record { serial = 1001; cradle = 1; first = 1 }

-- the seat of 1002
abbrev pub seat_1002 : Seat
seat_1002 = record { serial = 1002; cradle = 1; first = 2 }

-- the book after all calls: 1002 is seated, and the stay of 1001 has ended
abbrev pub last_book : Book
last_book = record {
  epoch = 2;
  seats = seat_1002 ∷ [];
  arrivals = [];
  departures = [];
  ended = record { seat = seat_1001; last = 1 } ∷ [];
}

-- what the card call writes to the front of the buffer
abbrev pub card_1001 : Publishing → List ℕ → List ℕ
card_1001 p buffer = take CARD_BYTES (buffer_after_card (server_of (first_calls p)) 1001 buffer)

-- the numbers of the player of that card: leaf 128, and epoch 1
abbrev pub numbers_1001 : PlayerNumbers
numbers_1001 = player_numbers 1001 128 1

-- what that player is after it was enrolled with a card on a ring, and then called
abbrev pub player_1001_after : PlayerCall → List ℕ → List ℕ → Player
player_1001_after a card ring = player_after a (waiting numbers_1001) (ring_after_enrol card ring)

-- the ring of that player after that call
abbrev pub ring_1001_after : PlayerCall → List ℕ → List ℕ → List ℕ
ring_1001_after a card ring = ring_after a (waiting numbers_1001) (ring_after_enrol card ring)

-- a player of the card, on that ring, and with these working bytes, beside the files of the run
pub record PlayerExampleHolds (files : List Edition) (card ring work : List ℕ) : Type 0 where
  -- the file of epoch 1
  pub file : Edition
  pub is_only : files_from_to 1 1 files ≡ file ∷ []
  pub enrols : enrol_verdict card ring ≡ Ok numbers_1001
  -- it is refused a read without working bytes: that is an aside, after which the course goes on
  -- with the same player and the same ring
  pub refused_read : IsAside (read_of file []) (waiting numbers_1001) (ring_after_enrol card ring)
  pub course_then : Course card [] true
      (player_1001_after (read_of file []) card ring) (ring_1001_after (read_of file []) card ring)
  pub same_player : player_1001_after (read_of file []) card ring ≡ waiting numbers_1001
  pub same_ring : ring_1001_after (read_of file []) card ring ≡ ring_after_enrol card ring
  -- then it is handed the file: it accepts it, is seated, and shows the group key of epoch 1
  pub course : Course card (files_from_to 1 1 files) true (seated numbers_1001)
      (ring_1001_after (read_of file work) card ring)
  pub shows : show_verdict (ring_1001_after (read_of file work) card ring) ≡ Ok (group_key file)

-- the group key of an epoch is reached from one scanner's leaf keys, through all files of a site
abbrev pub ReachesGroupKey : Site → ℕ → ℕ → Type 0
ReachesGroupKey w serial epoch =
    IsReached (IsLeafKeyOf w.book (serial ∷ [])) (IsLink w.files) (key_name 1 epoch)

-- what this run comes to
pub record RunExampleHolds (p q : Publishing) (buffer : List ℕ) : Type 0 where
  pub book : book_of (all_calls p q buffer) ≡ last_book
  -- the leaf key of 1001 is the first that was drawn
  pub card : card_1001 p buffer ≡ card_of seat_1001 (take 32 p.material)
  -- the card was given while 1001 was seated, which it no more is
  pub card_given : IsGivenCard (all_calls p q buffer) seat_1001 (card_1001 p buffer)
  pub player : (ring work : List ℕ) → length ring ≡ RING_BYTES → WORKING_BYTES ≤ length work →
      PlayerExampleHolds (files_of (all_calls p q buffer)) (card_1001 p buffer) ring work
  -- each of the two reaches the group key of the epoch that it was a member in, and not the other
  pub key_1_by_1001 : ReachesGroupKey (site_of (all_calls p q buffer)) 1001 1
  pub key_2_not_by_1001 : ReachesGroupKey (site_of (all_calls p q buffer)) 1001 2 → ⊥
  pub key_2_by_1002 : ReachesGroupKey (site_of (all_calls p q buffer)) 1002 2
  pub key_1_not_by_1002 : ReachesGroupKey (site_of (all_calls p q buffer)) 1002 1 → ⊥

-- it comes to this with any ample publishings, and any buffer that has room for the card
abbrev pub RunExamplesHold : Type 0
RunExamplesHold =
    (p q : Publishing) (buffer : List ℕ) → IsAmple p → IsAmple q → CARD_BYTES ≤ length buffer →
    RunExampleHolds p q buffer
