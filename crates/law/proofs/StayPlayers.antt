-- What the player of a stay does, in so far as it follows the files of one site.
use Rattle.std.proofs.Common.{◌≡◌, ℕ, ◌+◌, Bool, true, false, not, cond, List, [], length, Ok, eqb, is_err, refl, ap, ◌∙◌, eqb-true, true≢false}
use Rattle.refusal.specs.Refusals.{Verdict, refusal, new_or_old}
use Rattle.keys.specs.declared.NodeKey.{NodeKey}
use Rattle.keys.specs.Names.{Keys}
use Rattle.wrap.specs.Meaning.{WrapMeaning}
use Rattle.player_rules.specs.Rings.{ring_bytes, path_entries}
use Rattle.player_rules.specs.Players.{PlayerNumbers, player_numbers, Player, waiting, seated, read, read_verdict, ring_or, card_fault, fault_or, enrol_verdict}
use Rattle.player_rules.specs.Players.{is_player_refused, player_after, ring_after}
use Rattle.byte_strings.specs.Numbers.{byte_at, be_number2, be_number4}
use Rattle.law.specs.Book.{Seat, Stay, Covers}
use Rattle.law.specs.Runs.{Edition}
use Rattle.law.specs.Players.{Course, files_from_to, HoldsGroupKey, card_of}
use Rattle.law.proofs.SteadyStays.{leaf_at}
use Rattle.tree.proofs.Members.{In}

-- the player is where the server is: seated in its epoch, and its ring holds the keys of all nodes from its leaf to the root
pub record MatchesServer (epoch : ℕ) (keys : Keys) (t : Seat) (p : Player) (ring : List ℕ) : Type 0 where
  pub is_seated : p ≡ seated (player_numbers t.serial (leaf_at t) epoch)
  pub holds : ring ≡ ring_bytes (path_entries keys (leaf_at t))

-- for who is seated now, and this key of its leaf
pub record SeatPlays (epoch : ℕ) (keys : Keys) (files : List Edition) (t : Seat) (key : List ℕ) : Type 0 where
  pub is_key : key ≡ (keys (leaf_at t)).key
  pub plays : (all : Bool) (p : Player) (ring : List ℕ) → Course (card_of t key) (files_from_to t.first epoch files) all p ring →
      (all ≡ true) × MatchesServer epoch keys t p ring

-- a player with that card, handed the files up to that epoch, holds its group key
abbrev pub HoldsKeyAt : List Edition → Seat → List ℕ → ℕ → Type 0
HoldsKeyAt files t key e = (all : Bool) (p : Player) (ring : List ℕ) → Course (card_of t key) (files_from_to t.first e files) all p ring →
    HoldsGroupKey files t e all p ring

-- for any stay: one key of its leaf is on all its cards, and with that card the player holds what it should
pub record StayPlays (epoch : ℕ) (keys : Keys) (seats : List Seat) (files : List Edition) (given : Seat → List ℕ → Type 0) (s : Stay) : Type 0 where
  pub key : List ℕ
  pub enrols : (ring : List ℕ) → length ring ≡ 288 → enrol_verdict (card_of s.seat key) ring ≡ Ok (player_numbers s.seat.serial (leaf_at s.seat) s.seat.first)
  pub cards_are : (card : List ℕ) → given s.seat card → card ≡ card_of s.seat key
  pub holds : (e : ℕ) → Covers s e → HoldsKeyAt files s.seat key e
  pub as_seat : In s.seat seats → SeatPlays epoch keys files s.seat key

-- What a reading that is accepted makes of the player and of its ring.
module _ (x : PlayerNumbers) (wanted : ℕ) (w : WrapMeaning) (file work ring : List ℕ) (es : List NodeKey)
    (ok : read_verdict x.leaf wanted w file work ring ≡ Ok es) where
  -- a player that waits is seated in the wanted epoch, with the ring that was read
  pub waiting_reads : x.epoch ≡ wanted →
      (is_player_refused (read w file work) (waiting x) ring ≡ false)
      × ((player_after (read w file work) (waiting x) ring ≡ seated (player_numbers x.serial x.leaf wanted))
      × (ring_after (read w file work) (waiting x) ring ≡ ring_bytes es))
  waiting_reads e =
      let here : read_verdict x.leaf x.epoch w file work ring ≡ Ok es = ap (λ n. read_verdict x.leaf n w file work ring) e ∙ ok in (
        ap (λ (v : Verdict (List NodeKey)). is_err v) here,
        (
          ap (λ (v : Verdict (List NodeKey)). new_or_old v (seated x) (waiting x)) here ∙ ap (λ n. seated (player_numbers x.serial x.leaf n)) e,
          ap (λ (v : Verdict (List NodeKey)). ring_or v ring) here,
        ),
      )

  -- a player that is seated moves to the next epoch, with the ring that was read
  pub seated_reads : x.epoch + 1 ≡ wanted →
      (is_player_refused (read w file work) (seated x) ring ≡ false)
      × ((player_after (read w file work) (seated x) ring ≡ seated (player_numbers x.serial x.leaf wanted))
      × (ring_after (read w file work) (seated x) ring ≡ ring_bytes es))
  seated_reads e =
      let here : read_verdict x.leaf (x.epoch + 1) w file work ring ≡ Ok es = ap (λ n. read_verdict x.leaf n w file work ring) e ∙ ok in (
        ap (λ (v : Verdict (List NodeKey)). is_err v) here,
        (
          ap (λ (v : Verdict (List NodeKey)). new_or_old v (seated (player_numbers x.serial x.leaf (x.epoch + 1))) (seated x)) here
              ∙ ap (λ n. seated (player_numbers x.serial x.leaf n)) e,
          ap (λ (v : Verdict (List NodeKey)). ring_or v ring) here,
        ),
      )

-- an enrolling that is accepted was lent a ring
pub enrolled_ring : (card ring : List ℕ) (s : PlayerNumbers) → enrol_verdict card ring ≡ Ok s → length ring ≡ 288
enrolled_ring card ring s ok = go (eqb (length ring) 288) refl ok
  where
    go : (b : Bool) → eqb (length ring) 288 ≡ b →
        cond (not b) (refusal 14 []) (fault_or 13 (card_fault card) (Ok (player_numbers (be_number2 card 0) (byte_at card 2) (be_number4 card 3))))
        ≡ Ok s → length ring ≡ 288
    go true e h = eqb-true (length ring) 288 e
    go false e h = absurd (true≢false (ap (λ (v : Verdict PlayerNumbers). is_err v) h))
