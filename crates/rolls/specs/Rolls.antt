-- The generator of the long tests, and their sum.
use Rattle.std.specs.Prelude.{ℕ, ◌+◌, ◌*◌, ◌/◌, ◌%◌, ◌^◌, List, fold}

-- the state after this one
abbrev pub next_state : ℕ → ℕ
next_state state = (state * 1664525 + 1013904223) % 2 ^ 32

-- what is rolled at a state: its upper 16 bits
abbrev pub roll_of : ℕ → ℕ
roll_of state = state / 2 ^ 16

-- the sum with one number more
abbrev pub sum_with : ℕ → ℕ → ℕ
sum_with sum number = (sum * 1099511628211 + number) % 2 ^ 64

-- the sum with these numbers more, in their order
abbrev pub sum_with_all : ℕ → List ℕ → ℕ
sum_with_all sum numbers = fold sum_with sum numbers
