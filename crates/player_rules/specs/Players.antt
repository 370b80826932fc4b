-- A player and its calls: what each checks, what it answers, and what it makes of the player and of
-- the ring. Numbers beside a call are those of its refusals, in the order of its checks.
use Rattle.std.specs.Prelude.{ℕ, ◌+◌, Bool, true, not, if◌then◌else◌, List, [], ◌∷◌, ◌++◌, length}
use Rattle.std.specs.Prelude.{min, replicate, Some, None, Ok, Err, Option, is_err, ◌==◌, nat_lt}
use Rattle.byte_strings.specs.Strings.{part}
use Rattle.byte_strings.specs.Numbers.{byte_at, be_number2, be_number4}
use Rattle.refusal.specs.Refusals.{Verdict, refusal, new_or_old}
use Rattle.wrap.specs.Calls.{is_working_short}
use Rattle.keys.specs.Limits.{is_serial}
use Rattle.keys.specs.declared.NodeKey.{NodeKey}
use Rattle.file_rules.specs.Layout.{layout_fault}
use Rattle.std.specs.Int.{is_in_range}
use Rattle.file_rules.specs.Reading.{parsed_file}
use Rattle.wrap.specs.Meaning.{WrapMeaning}
use Rattle.player_rules.specs.Rings.{is_ring, entries, ring_bytes}
use Rattle.player_rules.specs.Climbs.{ring_after_file}
use Rattle.keys.specs.declared.limits.TheConstants.{CARD_BYTES, LAST_EPOCH}
use Rattle.player_rules.specs.declared.limits.TheConstants.{RING_BYTES}

-- the plain numbers of a player that is waiting or seated
pub record PlayerNumbers : Type 0 where
  -- the scanner's number, 1 to 9999
  pub serial : ℕ
  -- the leaf of its cradle, 128 to 255
  pub leaf : ℕ
  -- of the first file that it reads, or of its group key
  pub epoch : ℕ

-- the three numbers in one
abbrev pub player_numbers : ℕ → ℕ → ℕ → PlayerNumbers
player_numbers serial leaf epoch = record { serial = serial; leaf = leaf; epoch = epoch }

-- a player, by what it has read
pub data Player : Type 0 where
  -- it has read no file yet; the epoch is that of the first file
  waiting : PlayerNumbers → Player
  -- the epoch is that of the group key in the ring
  seated : PlayerNumbers → Player
  -- its ring is zeros, and all that is left is the serial
  wiped : ℕ → Player

-- Enrolling.

-- the place of a card's first fault, if it has one: 39 bytes; serial, leaf, epoch
abbrev pub card_fault : List ℕ → Option ℕ
card_fault card =
    if not (length card == CARD_BYTES) then Some (min (length card) CARD_BYTES)
    else (if not (is_serial (be_number2 card 0)) then Some 0
    else (if not (is_in_range 128 255 (byte_at card 2)) then Some 2
    else (if not (is_in_range 1 LAST_EPOCH (be_number4 card 3)) then Some 3 else None)))

-- the numbers that stand on a card: the serial in two bytes, the leaf in one, the epoch in four
abbrev pub card_numbers : List ℕ → PlayerNumbers
card_numbers card = player_numbers (be_number2 card 0) (byte_at card 2) (be_number4 card 3)

-- the refusal of that number with the fault's place, or what comes next where there is no fault
abbrev pub fault_or : {A : Type 0} → ℕ → Option ℕ → Verdict A → Verdict A
fault_or number None next = next
fault_or number (Some place) next = refusal number (place ∷ [])

-- enrolling: 14, 13
abbrev pub enrol_verdict : List ℕ → List ℕ → Verdict PlayerNumbers
enrol_verdict card ring =
    if not (is_ring ring) then refusal 14 []
    else fault_or 13 (card_fault card) (Ok (card_numbers card))

-- the ring after an enrolling: entry 0 is the card's epoch and key, and the rest is zeros
abbrev pub ring_after_enrol : List ℕ → List ℕ → List ℕ
ring_after_enrol card ring =
    new_or_old (enrol_verdict card ring) (part 36 3 card ++ replicate 252 0) ring

-- Reading.

-- reading a file at that leaf, of the epoch that is wanted: 9, 14, 15, 16, 17, and then 18 or 19 on
-- the way up; else the entries that the ring then has
abbrev pub read_verdict : ℕ → ℕ → WrapMeaning → List ℕ → List ℕ → List ℕ → Verdict (List NodeKey)
read_verdict leaf wanted w file work ring =
    if is_working_short work then refusal 9 []
    else (if not (is_ring ring) then refusal 14 []
    else (fault_or 15 (layout_fault w.kind w.length file)
    (if nat_lt (be_number4 file 3) wanted then refusal 16 (wanted ∷ [])
    else (if nat_lt wanted (be_number4 file 3) then refusal 17 (wanted ∷ [])
    else ring_after_file w (parsed_file w.length file) leaf (entries ring)))))

-- the ring with the entries that were read, or as it was
abbrev pub ring_or : Verdict (List NodeKey) → List ℕ → List ℕ
ring_or (Ok entries) ring = ring_bytes entries
ring_or (Err f) ring = ring

-- Showing and wiping.

-- showing: 14; else the group key: the key of the root's entry, bytes 256 to 287 of the ring
abbrev pub show_verdict : List ℕ → Verdict (List ℕ)
show_verdict ring = if not (is_ring ring) then refusal 14 [] else Ok (part 32 256 ring)

-- wiping: 14
abbrev pub wipe_verdict : List ℕ → Verdict (Unit {0})
wipe_verdict ring = if not (is_ring ring) then refusal 14 [] else Ok tt

-- the ring after a wiping: zeros, or as it was
abbrev pub ring_after_wipe : List ℕ → List ℕ
ring_after_wipe ring = new_or_old (wipe_verdict ring) (replicate RING_BYTES 0) ring

-- The calls of a player that was enrolled. A ring is lent to each.

-- a call of a player
pub data PlayerCall : Type 0 where
  -- a wrap, a file, working bytes
  read : WrapMeaning → List ℕ → List ℕ → PlayerCall
  -- shows the group key
  show : PlayerCall
  -- makes zeros of the ring
  wipe : PlayerCall

-- is the call refused? A waiting player cannot show, and a wiped one can do nothing: for them a
-- refusal stands for what the types of the code rule out
abbrev pub is_player_refused : PlayerCall → Player → List ℕ → Bool
is_player_refused (read w file work) (waiting s) ring =
    is_err (read_verdict s.leaf s.epoch w file work ring)
is_player_refused (read w file work) (seated s) ring =
    is_err (read_verdict s.leaf (s.epoch + 1) w file work ring)
is_player_refused (read w file work) (wiped x) ring = true
is_player_refused show (waiting s) ring = true
is_player_refused show (seated s) ring = is_err (show_verdict ring)
is_player_refused show (wiped x) ring = true
is_player_refused wipe (waiting s) ring = is_err (wipe_verdict ring)
is_player_refused wipe (seated s) ring = is_err (wipe_verdict ring)
is_player_refused wipe (wiped x) ring = true

-- the player after a call
abbrev pub player_after : PlayerCall → Player → List ℕ → Player
player_after (read w file work) (waiting s) ring =
    new_or_old (read_verdict s.leaf s.epoch w file work ring) (seated s) (waiting s)
player_after (read w file work) (seated s) ring =
    new_or_old (read_verdict s.leaf (s.epoch + 1) w file work ring)
    (seated (record s { epoch = s.epoch + 1 })) (seated s)
player_after (read w file work) (wiped x) ring = wiped x
player_after show p ring = p
player_after wipe (waiting s) ring = new_or_old (wipe_verdict ring) (wiped s.serial) (waiting s)
player_after wipe (seated s) ring = new_or_old (wipe_verdict ring) (wiped s.serial) (seated s)
player_after wipe (wiped x) ring = wiped x

-- the ring after a call
abbrev pub ring_after : PlayerCall → Player → List ℕ → List ℕ
ring_after (read w file work) (waiting s) ring =
    ring_or (read_verdict s.leaf s.epoch w file work ring) ring
ring_after (read w file work) (seated s) ring =
    ring_or (read_verdict s.leaf (s.epoch + 1) w file work ring) ring
ring_after (read w file work) (wiped x) ring = ring
ring_after show p ring = ring
ring_after wipe (waiting s) ring = ring_after_wipe ring
ring_after wipe (seated s) ring = ring_after_wipe ring
ring_after wipe (wiped x) ring = ring
