-- The state of a server.
use Rattle.std.specs.Prelude.{ℕ, ◌+◌, ◌-◌, Bool, false, if◌then◌else◌, List, map, replicate, Some}
use Rattle.std.specs.Prelude.{None, Option, position, slice_index_or, nat_eq}
use Rattle.std.specs.List.{list_any}
use Rattle.tree.specs.declared.limits.TheConstants.{CRADLES}
use Rattle.tree.specs.declared.types.Code.{Code}
use Rattle.tree.specs.Rows.{is_change_code}
use Rattle.keys.specs.Names.{unmade_key, keys_in}
use Rattle.cradles.specs.declared.Cradle.{Cradle}
use Rattle.cradles.specs.declared.Cradle.TheVariants.{Empty}
use Rattle.cradles.specs.Cradles.{cradle_code, occupant, holder}
use Rattle.server_rules.specs.declared.state.State.{State}

-- a new server: epoch 0, all cradles empty, no key ever made
abbrev pub new_state : State
new_state = record {
  epoch = 0;
  cradles = replicate CRADLES Empty;
  nodes = replicate 256 unmade_key;
}

-- the cradle of that number, from 1 on
abbrev pub cradle : State → ℕ → Cradle
cradle s c = slice_index_or s.cradles (c - 1) Empty

-- the leaf of a cradle
abbrev pub leaf_of : ℕ → ℕ
leaf_of c = 127 + c

-- the codes of the next change, one for each cradle
abbrev pub row : State → List Code
row s = map cradle_code s.cradles

-- is it that serial, and not nobody?
abbrev pub is_that_serial : ℕ → Option ℕ → Bool
is_that_serial x None = false
is_that_serial x (Some y) = nat_eq y x

-- the index of the cradle in which the scanner is, counted from 0
abbrev pub seat_index : ℕ → State → Option ℕ
seat_index x s = position (λ c. is_that_serial x (occupant c)) s.cradles

-- the index of the cradle that the scanner holds, counted from 0
abbrev pub held_cradle_index : ℕ → State → Option ℕ
held_cradle_index x s = position (λ c. is_that_serial x (holder c)) s.cradles

-- is something noted, an arrival or a departure?
abbrev pub has_notes : State → Bool
has_notes s = list_any (λ c. is_change_code (cradle_code c)) s.cradles

-- the group key: the root's, and none in epoch 0
abbrev pub group_key_of : State → Option (List ℕ)
group_key_of s = if nat_eq s.epoch 0 then None else Some (keys_in s.nodes 1).key
