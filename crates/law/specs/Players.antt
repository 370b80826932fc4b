-- A player beside a run: the card that it is enrolled with, the files that it is handed, and what
-- it then holds. Runs and files are listed the newest first.
use Rattle.std.specs.Prelude.{◌≡◌, ℕ, ◌≤◌, Bool, true, not, ◌&&◌, ◌⊎◌, List, [], ◌∷◌, ◌++◌, IsTrue}
use Rattle.std.specs.Prelude.{filter, length, take, Ok, nat_le, Contains}
use Rattle.server_rules.specs.States.{leaf_of}
use Rattle.server_rules.specs.Calls.{Call}
use Rattle.server_rules.specs.Calls as calls
use Rattle.server_rules.specs.Cards.{card_verdict, buffer_after_card, card_with}
use Rattle.player_rules.specs.Players.{PlayerNumbers, player_numbers, Player, waiting, seated}
use Rattle.player_rules.specs.Players.{PlayerCall, read, show, enrol_verdict, ring_after_enrol}
use Rattle.player_rules.specs.Players.{show_verdict, is_player_refused, player_after, ring_after}
use Rattle.law.specs.Book.{Seat}
use Rattle.law.specs.Runs.{Edition, group_key, server_of, book_of}
use Rattle.wrap.specs.declared.working.TheConstants.{WORKING_BYTES}
use Rattle.player_rules.specs.declared.limits.TheConstants.{RING_BYTES}
use Rattle.keys.specs.declared.limits.TheConstants.{CARD_BYTES}

-- an accepted card call of the run, while the stay was a seat, and the bytes that it wrote
pub record IsGivenCard (run_calls : List Call) (t : Seat) (bytes : List ℕ) : Type 0 where
  pub later : List Call
  pub earlier : List Call
  pub buffer : List ℕ
  pub is_call : run_calls ≡ later ++ (calls.card t.serial buffer ∷ earlier)
  pub was_seat : Contains (book_of earlier).seats t
  pub was_accepted : card_verdict (server_of earlier) t.serial buffer ≡ Ok tt
  pub was_written :
      bytes ≡ take CARD_BYTES (buffer_after_card (server_of earlier) t.serial buffer)

-- the files of the epochs from one to another, the newest first
abbrev pub files_from_to : ℕ → ℕ → List Edition → List Edition
files_from_to first last files =
    filter (λ x. nat_le first x.notice.epoch && nat_le x.notice.epoch last) files

-- a call is lent the player's own ring, or some other bytes
pub data LentRing : Type 0 where
  own : LentRing
  other : List ℕ → LentRing

-- the bytes that a call is lent, by the player's own ring
abbrev pub lent_ring : LentRing → List ℕ → List ℕ
lent_ring own ring = ring
lent_ring (other bytes) ring = bytes

-- the player's own ring after a call that left these bytes in what it was lent
abbrev pub own_ring_after : LentRing → List ℕ → List ℕ → List ℕ
own_ring_after own left ring = left
own_ring_after (other bytes) left ring = ring

-- a call that the player is not handed a published file by: it shows, or it is refused
abbrev pub IsAside : PlayerCall → Player → List ℕ → Type 0
IsAside a p ring = (a ≡ show) ⊎ IsTrue (is_player_refused a p ring)

-- the read of a published file, byte for byte, with the wrap that made it and these working bytes
abbrev pub read_of : Edition → List ℕ → PlayerCall
read_of x work = read x.wrap x.bytes work

-- a player that was enrolled with the card, its ring written by its calls alone, and handed these
-- files, the newest first; whether it accepted them all; what it is, and its ring
pub data Course (card : List ℕ) : List Edition → Bool → Player → List ℕ → Type 0 where
  -- handed none yet
  enrolled : (ring : List ℕ) (s : PlayerNumbers) → enrol_verdict card ring ≡ Ok s →
      Course card [] true (waiting s) (ring_after_enrol card ring)
  -- other calls, with files of any bytes, any wrap, any working bytes and any bytes for a ring
  aside : {files : List Edition} {all : Bool} {p : Player} {ring : List ℕ} →
      (a : PlayerCall) (l : LentRing) → IsAside a p (lent_ring l ring) →
      Course card files all p ring →
      Course card files all (player_after a p (lent_ring l ring))
      (own_ring_after l (ring_after a p (lent_ring l ring)) ring)
  -- handed one more, with enough working bytes, whether it accepts it or not
  handed : {files : List Edition} {all : Bool} {p : Player} {ring : List ℕ} →
      (x : Edition) (work : List ℕ) → WORKING_BYTES ≤ length work →
      Course card files all p ring →
      Course card (x ∷ files) (all && not (is_player_refused (read_of x work) p ring))
      (player_after (read_of x work) p ring) (ring_after (read_of x work) p ring)

-- what the player of a stay then is: it accepted all files, is seated in that epoch, and shows its
-- group key
pub record HoldsGroupKey
    (files : List Edition) (t : Seat) (e : ℕ) (all : Bool) (p : Player) (ring : List ℕ) :
    Type 0 where
  pub accepted_all : IsTrue all
  pub is_seated : p ≡ seated (player_numbers t.serial (leaf_of t.cradle) e)
  pub file : Edition
  pub is_file : Contains files file
  pub is_epoch : file.notice.epoch ≡ e
  pub shows : show_verdict ring ≡ Ok (group_key file)

-- enrolling with that card on any ring of 288 bytes is accepted, and gives the player of the stay
abbrev pub Enrols : Seat → List ℕ → Type 0
Enrols t card =
    (ring : List ℕ) → length ring ≡ RING_BYTES →
    enrol_verdict card ring ≡ Ok (player_numbers t.serial (leaf_of t.cradle) t.first)

-- the card of a seat: its serial, its leaf, its first epoch, and its leaf's key
abbrev pub card_of : Seat → List ℕ → List ℕ
card_of t key = card_with t.serial (leaf_of t.cradle) (record { made = t.first; key = key })
