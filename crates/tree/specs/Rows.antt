-- A row has a code for each of the 128 cradles. By the codes beneath a node, the node gets a new
-- key or keeps its key, and is occupied or empty after the change.
use Rattle.std.specs.Prelude.{◌≡◌, ℕ, zero, suc, ◌-◌, ◌<◌, Bool, true, false, not, ◌&&◌, ◌||◌}
use Rattle.std.specs.Prelude.{Option, Some, None, List, filter, slice_index_or}
use Rattle.tree.specs.declared.types.Code.{Code}
use Rattle.tree.specs.declared.types.Code.TheVariants.{Empty, Stays, Arrives, Departs, Swaps}
use Rattle.tree.specs.declared.types.Mark.{Mark}
use Rattle.tree.specs.declared.types.Mark.TheVariants.{Change, Presence, Stay, Departure}
use Rattle.tree.specs.declared.codes.Standing.{Standing}
use Rattle.std.specs.List.{list_any}
use Rattle.tree.specs.Tree.{is_within, is_inner, tree_leaves, inner_nodes}

-- the code of a number: 0 to 4 have one
abbrev pub code_of_number : ℕ → Option Code
code_of_number zero = Some Empty
code_of_number (suc zero) = Some Stays
code_of_number (suc (suc zero)) = Some Arrives
code_of_number (suc (suc (suc zero))) = Some Departs
code_of_number (suc (suc (suc (suc zero)))) = Some Swaps
code_of_number (suc (suc (suc (suc (suc n))))) = None

-- 2, 3 or 4: somebody arrives or departs
abbrev pub is_change_code : Code → Bool
is_change_code Empty = false
is_change_code Stays = false
is_change_code Arrives = true
is_change_code Departs = true
is_change_code Swaps = true

-- 1, 2 or 4: somebody is there after the change
abbrev pub is_occupied_after : Code → Bool
is_occupied_after Empty = false
is_occupied_after Stays = true
is_occupied_after Arrives = true
is_occupied_after Departs = false
is_occupied_after Swaps = true

-- 1: somebody is there before and after it
abbrev pub is_stay_code : Code → Bool
is_stay_code Empty = false
is_stay_code Stays = true
is_stay_code Arrives = false
is_stay_code Departs = false
is_stay_code Swaps = false

-- 3 or 4: somebody departs
abbrev pub is_departure_code : Code → Bool
is_departure_code Empty = false
is_departure_code Stays = false
is_departure_code Arrives = false
is_departure_code Departs = true
is_departure_code Swaps = true

-- 2: somebody arrives in an empty cradle
abbrev pub is_arrival_in_empty : Code → Bool
is_arrival_in_empty Empty = false
is_arrival_in_empty Stays = false
is_arrival_in_empty Arrives = true
is_arrival_in_empty Departs = false
is_arrival_in_empty Swaps = false

-- whether the code is one that the mark looks for
abbrev pub is_mark_of : Mark → Code → Bool
is_mark_of Change = is_change_code
is_mark_of Presence = is_occupied_after
is_mark_of Stay = is_stay_code
is_mark_of Departure = is_departure_code

-- the code at the leaf u: cradle c has the leaf 127 + c, and its code is the c-th of the row
abbrev pub code_at : List Code → ℕ → Code
code_at row u = slice_index_or row (u - 128) Empty

-- a code that passes stands beneath n, or at n where n is a leaf
unfoldable pub stands_within : (Code → Bool) → List Code → ℕ → Bool
stands_within test row n = list_any (λ u. is_within u n && test (code_at row u)) tree_leaves

-- the inner node gets a new key: somebody arrives or departs beneath it
-- (an arrival's leaf gets a new key too, but by its card and not by a pair)
unfoldable pub is_changed : List Code → ℕ → Bool
is_changed row n = is_inner n && stands_within is_change_code row n

-- somebody is beneath the node after the change, or at it where it is a leaf
unfoldable pub is_occupied : List Code → ℕ → Bool
is_occupied row n = stands_within is_occupied_after row n

-- the former key of the node is known to somebody who stays, and to nobody who departs
abbrev pub former_serves : List Code → ℕ → Bool
former_serves row n =
    stands_within is_stay_code row n && not (stands_within is_departure_code row n)

-- the changed nodes, falling
unfoldable pub changed_nodes : List Code → List ℕ
changed_nodes row = filter (is_changed row) inner_nodes

-- what stands beneath a node where all cradles are empty and stay so
abbrev pub empty_standing : Standing
empty_standing = record { change = false; presence = false; stay = false; departure = false }

-- what stands at a leaf with this code
abbrev pub standing_of : Code → Standing
standing_of code = record {
  change = is_change_code code;
  presence = is_occupied_after code;
  stay = is_stay_code code;
  departure = is_departure_code code;
}

-- what stands in either place
abbrev pub standing_or : Standing → Standing → Standing
standing_or s t = record {
  change = s.change || t.change;
  presence = s.presence || t.presence;
  stay = s.stay || t.stay;
  departure = s.departure || t.departure;
}

-- what stands at a node or beneath it
abbrev pub standing_at : List Code → ℕ → Standing
standing_at row n = record {
  change = stands_within is_change_code row n;
  presence = is_occupied row n;
  stay = stands_within is_stay_code row n;
  departure = stands_within is_departure_code row n;
}

-- whether the mark is among those that stand there
abbrev pub has_mark : Standing → Mark → Bool
has_mark s Change = s.change
has_mark s Presence = s.presence
has_mark s Stay = s.stay
has_mark s Departure = s.departure

-- whether a code that the mark looks for stands at n or beneath it
abbrev pub stands_mark : Mark → List Code → ℕ → Bool
stands_mark mark row n = has_mark (standing_at row n) mark

-- the table has what stands at each number below 256, and so at each node
abbrev pub IsStandingTable : List Code → List Standing → Type 0
IsStandingTable row table =
    (n : ℕ) → n < 256 → slice_index_or table n empty_standing ≡ standing_at row n
