-- The card of a scanner, and the checks of a card call in their order.
use Rattle.std.specs.Prelude.{ℕ, ◌+◌, not, if◌then◌else◌, List, [], ◌∷◌, ◌++◌, length, drop, Some}
use Rattle.std.specs.Prelude.{None, Ok, Option, nat_lt}
use Rattle.byte_strings.specs.Numbers.{be_bytes2, be_bytes4}
use Rattle.refusal.specs.Refusals.{Verdict, refusal, new_or_old}
use Rattle.keys.specs.Names.{keys_in}
use Rattle.server_rules.specs.declared.state.State.{State}
use Rattle.server_rules.specs.States.{leaf_of, seat_index}
use Rattle.keys.specs.Limits.{is_serial}
use Rattle.keys.specs.declared.limits.TheConstants.{CARD_BYTES}
use Rattle.keys.specs.declared.NodeKey.{NodeKey}

-- the scanner is in a cradle, or 5, and the buffer has room for a card, or 12 with the bytes needed
abbrev pub card_seat_verdict : List ℕ → Option ℕ → Verdict (Unit {0})
card_seat_verdict buffer None = refusal 5 []
card_seat_verdict buffer (Some i) =
    if nat_lt (length buffer) CARD_BYTES then refusal 12 (CARD_BYTES ∷ []) else Ok tt

-- the writing of a card: 1, 5, 12
abbrev pub card_verdict : State → ℕ → List ℕ → Verdict (Unit {0})
card_verdict s x buffer =
    if not (is_serial x) then refusal 1 [] else card_seat_verdict buffer (seat_index x s)

-- a card: a serial, a leaf, the epoch in which the leaf's key was made, the key
abbrev pub card_with : ℕ → ℕ → NodeKey → List ℕ
card_with serial leaf key = be_bytes2 serial ++ (leaf ∷ (be_bytes4 key.made ++ key.key))

-- the card of the scanner in that cradle, whose leaf's key was made in the stay's first epoch
abbrev pub card_bytes : State → ℕ → ℕ → List ℕ
card_bytes s x c = card_with x (leaf_of c) (keys_in s.nodes (leaf_of c))

-- the buffer with the card at its front, where the scanner is in the cradle of that index
abbrev pub buffer_with_card : State → ℕ → List ℕ → Option ℕ → List ℕ
buffer_with_card s x buffer None = buffer
buffer_with_card s x buffer (Some i) = card_bytes s x (i + 1) ++ drop CARD_BYTES buffer

-- the buffer after a card call: the card at its front and the rest as it was, or all as it was
abbrev pub buffer_after_card : State → ℕ → List ℕ → List ℕ
buffer_after_card s x buffer =
    new_or_old (card_verdict s x buffer) (buffer_with_card s x buffer (seat_index x s)) buffer
