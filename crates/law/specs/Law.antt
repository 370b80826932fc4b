-- A group key belongs to its members, whatever was called: it is reached by nobody else, and each
-- of their players holds it. Runs and files are listed the newest first.
use Rattle.std.specs.Prelude.{◌≡◌, ℕ, ◌<◌, ◌≤◌, ◌↔◌, Bool, true, List, ◌∷◌, ◌++◌, length, map}
use Rattle.std.specs.Prelude.{drop, Some, None, Ok, Contains, IsTrue}
use Rattle.byte_strings.specs.Strings.{IsBytes}
use Rattle.tree.specs.Tree.{IsWithin, countdown}
use Rattle.keys.specs.declared.KeyName.{KeyName}
use Rattle.keys.specs.Names.{key_name, keys_in}
use Rattle.file_rules.specs.Layout.{layout_fault}
use Rattle.cradles.specs.Cradles.{occupant, IsCradle}
use Rattle.server_rules.specs.declared.state.State.{State}
use Rattle.server_rules.specs.States.{cradle, leaf_of}
use Rattle.server_rules.specs.Calls.{Call, card}
use Rattle.server_rules.specs.Notes.{admit_verdict}
use Rattle.server_rules.specs.Cards.{card_verdict, buffer_after_card}
use Rattle.server_rules.specs.Sound.{IsSoundServer}
use Rattle.player_rules.specs.Players.{Player}
use Rattle.law.specs.Book.{Book, Seat, Arrival, Stay, IsStay, IsMember, Covers}
use Rattle.law.specs.Runs.{Edition, Site, group_key, site_of, server_of, book_of, files_of}
use Rattle.law.specs.Runs.{AllGivenLawfully}
use Rattle.law.specs.Players.{IsGivenCard, Enrols, Course, files_from_to, HoldsGroupKey, card_of}
use Rattle.chains.specs.Chains.{IsReached}
use Rattle.law.specs.Links.{edition_file, IsLink}
use Rattle.law.specs.Answers.{SameCradles, AdmitAnswers, RemoveAnswers, CardAnswers}
use Rattle.keys.specs.declared.limits.TheConstants.{CARD_BYTES}
use Rattle.player_rules.specs.declared.limits.TheConstants.{RING_BYTES}

-- the epoch of an accepted publishing
pub record IsPublishedEpoch (w : Site) (e : ℕ) : Type 0 where
  pub file : Edition
  pub is_file : Contains w.files file
  pub is_epoch : file.notice.epoch ≡ e

-- the leaf key of a stay is named by the cradle's leaf and the stay's first epoch
abbrev pub leaf_key_name : Seat → KeyName
leaf_key_name t = key_name (leaf_of t.cradle) t.first

-- the name of the leaf key of a stay of one of the scanners, ended or not
pub record IsLeafKeyOf (b : Book) (serials : List ℕ) (name : KeyName) : Type 0 where
  pub stay : Stay
  pub is_stay : IsStay b stay
  pub is_theirs : Contains serials stay.seat.serial
  pub is_name : leaf_key_name stay.seat ≡ name

-- one of the scanners was a member in that epoch
abbrev pub SomeIsMember : Book → List ℕ → ℕ → Type 0
SomeIsMember b serials e = (x : ℕ) × (Contains serials x × IsMember b x e)

-- one of the scanners has a stay whose leaf is the name's node or beneath it, and which covers the
-- name's epoch
pub record HasStayUnder (b : Book) (serials : List ℕ) (name : KeyName) : Type 0 where
  pub stay : Stay
  pub is_stay : IsStay b stay
  pub is_theirs : Contains serials stay.seat.serial
  pub is_node : 0 < name.node
  pub beneath : IsWithin (leaf_of stay.seat.cradle) name.node
  pub covers : Covers stay name.epoch

-- a file that its reader accepts, and that says what its publishing reported
pub record IsReadable (x : Edition) : Type 0 where
  pub bytes : IsBytes x.bytes
  pub size : length x.bytes ≡ x.notice.bytes
  pub accepted : layout_fault x.wrap.kind x.wrap.length x.bytes ≡ None
  pub epoch : (edition_file x).epoch ≡ x.notice.epoch
  pub wraps : length (edition_file x).wraps ≡ x.notice.wraps

-- whichever epoch of a stay is named, a player that is enrolled with a card that was given while
-- the stay was a seat, and handed the files from the stay's first to that epoch's, accepts them all
-- and holds that epoch's group key
abbrev pub MembersHold : List Call → Type 0
MembersHold calls =
    (stay : Stay) (e : ℕ) → IsStay (book_of calls) stay → Covers stay e →
    (bytes : List ℕ) → IsGivenCard calls stay.seat bytes →
    Enrols stay.seat bytes
    × ((all : Bool) (p : Player) (ring : List ℕ) →
    Course bytes (files_from_to stay.seat.first e (files_of calls)) all p ring →
    HoldsGroupKey (files_of calls) stay.seat e all p ring)

-- and it can be handed them: from any ring of 288 bytes there is such a course, which accepts all
abbrev pub CoursesExist : List Call → Type 0
CoursesExist calls =
    (stay : Stay) (e : ℕ) → IsStay (book_of calls) stay → Covers stay e →
    (bytes : List ℕ) → IsGivenCard calls stay.seat bytes →
    (ring : List ℕ) → length ring ≡ RING_BYTES →
    (p : Player) × ((left : List ℕ) ×
    Course bytes (files_from_to stay.seat.first e (files_of calls)) true p left)

-- that property of a serial and a cradle is one of all stays and of all arrivals that are noted
pub record AllHave (b : Book) (property : ℕ → ℕ → Bool) : Type 0 where
  pub stays : (s : Stay) → IsStay b s → IsTrue (property s.seat.serial s.seat.cradle)
  pub arrivals : (a : Arrival) → Contains b.arrivals a → IsTrue (property a.serial a.cradle)

-- admit checks that property: it accepts no serial and cradle without it, at any server
abbrev pub AdmitChecks : (ℕ → ℕ → Bool) → Type 0
AdmitChecks property =
    (s : State) (x c : ℕ) → admit_verdict s x c ≡ Ok tt → IsTrue (property x c)

-- the card that a seat is given after these calls
abbrev pub present_card : List Call → Seat → List ℕ
present_card calls t = card_of t (keys_in (server_of calls).nodes (leaf_of t.cradle)).key

-- what holds after these calls
pub record LawHoldsAfter (calls : List Call) : Type 0 where
  -- the group key of an epoch is reached from the leaf keys of scanners, through all published
  -- files, exactly when one of them was a member then
  pub reached_by_members : (serials : List ℕ) (e : ℕ) →
      IsReached (IsLeafKeyOf (book_of calls) serials) (IsLink (files_of calls)) (key_name 1 e)
      ↔ SomeIsMember (book_of calls) serials e
  -- whatever key is reached from them is of a node at or above the leaf of one of their stays, and
  -- that stay covers the epoch in which it was made
  pub reached_by_stays : (serials : List ℕ) (name : KeyName) →
      IsReached (IsLeafKeyOf (book_of calls) serials) (IsLink (files_of calls)) name →
      HasStayUnder (book_of calls) serials name
  -- members hold the group keys of their epochs
  pub members_hold : MembersHold calls
  -- and there are courses by which they come to them
  pub courses_exist : CoursesExist calls
  -- the published epochs are those from 1 to the book's, which is the server's: each once, in order
  pub published : (e : ℕ) →
      IsPublishedEpoch (site_of calls) e ↔ ((1 ≤ e) × (e ≤ (book_of calls).epoch))
  pub in_order : map (λ x. x.notice.epoch) (files_of calls) ≡ countdown (book_of calls).epoch
  pub same_epoch : (server_of calls).epoch ≡ (book_of calls).epoch
  -- the group key of the newest epoch is the root's, at the server
  pub newest : (x : Edition) → Contains (files_of calls) x →
      x.notice.epoch ≡ (server_of calls).epoch →
      group_key x ≡ (keys_in (server_of calls).nodes 1).key
  -- each published file is accepted by its reader
  pub readable : (x : Edition) → Contains (files_of calls) x → IsReadable x
  -- a seat of the book is one of the server, and its leaf key has the name that the book gives it
  pub seats : (t : Seat) → Contains (book_of calls).seats t →
      (occupant (cradle (server_of calls) t.cradle) ≡ Some t.serial)
      × ((keys_in (server_of calls).nodes (leaf_of t.cradle)).made ≡ t.first)
  -- who is where, and what is noted, is the same at the server and in the book
  pub same_cradles : SameCradles (site_of calls)
  -- and whoever sat in a cradle at some moment is a member in the epoch of that moment
  pub seated_members : (later earlier : List Call) → calls ≡ later ++ earlier →
      (c x : ℕ) → IsCradle c → occupant (cradle (server_of earlier) c) ≡ Some x →
      IsMember (book_of calls) x (server_of earlier).epoch
  -- what these calls would answer next
  pub admit_answers : (x c : ℕ) → AdmitAnswers (site_of calls) x c
  pub remove_answers : (x : ℕ) → RemoveAnswers (site_of calls) x
  pub card_answers : (x : ℕ) (buffer : List ℕ) → CardAnswers (site_of calls) x buffer
  -- the card of a seat is written to the front of a buffer that has room
  pub cards : (t : Seat) → Contains (book_of calls).seats t →
      (buffer : List ℕ) → CARD_BYTES ≤ length buffer →
      (card_verdict (server_of calls) t.serial buffer ≡ Ok tt)
      × (buffer_after_card (server_of calls) t.serial buffer
      ≡ present_card calls t ++ drop CARD_BYTES buffer)
  -- and these bytes are then a card that was given to it
  pub cards_given : (t : Seat) → Contains (book_of calls).seats t →
      (buffer : List ℕ) → CARD_BYTES ≤ length buffer →
      IsGivenCard (card t.serial buffer ∷ calls) t (present_card calls t)
  -- what admit checks of a serial and a cradle holds of all stays, and of all noted arrivals
  pub all_checked : (property : ℕ → ℕ → Bool) → AdmitChecks property →
      AllHave (book_of calls) property
  -- what every server keeps
  pub sound : IsSoundServer (server_of calls)

-- for any calls on a new server, in any number and order, refused ones included, with any
-- strategies and wraps that keep their laws
abbrev pub EveryRun : Type 0
EveryRun = (calls : List Call) → AllGivenLawfully calls → LawHoldsAfter calls

-- the law of one server: calls with lawful strategies and wraps that make it what it is, and all
-- that holds after them
pub record LawHoldsFor (s : State) : Type 0 where
  pub calls : List Call
  pub given : AllGivenLawfully calls
  pub is_server : server_of calls ≡ s
  pub holds : LawHoldsAfter calls
