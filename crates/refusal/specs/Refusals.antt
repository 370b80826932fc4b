-- What a call reports to its caller. A refusal has a number, and values that are reported with it.
use Rattle.std.specs.Prelude.{ℕ, List, Ok, Err, Result}

-- why a call was refused
pub record Refusal : Type 0 where
  -- the same for every call that refuses for this reason
  pub number : ℕ
  -- such as a place, an index, an epoch or a number of bytes, in a fixed order
  pub values : List ℕ

-- a refusal by its parts
abbrev pub refusal_with : ℕ → List ℕ → Refusal
refusal_with number values = record { number = number; values = values }

-- an answer, or why there is none
abbrev pub Verdict : Type 0 → Type 0
Verdict A = Result A Refusal

-- the verdict that refuses, by its number and values
abbrev pub refusal : {A : Type 0} → ℕ → List ℕ → Verdict A
refusal number values = Err (refusal_with number values)

-- what a result of the code reports, where `means` gives each fault its number and values
abbrev pub verdict_of : {A F : Type 0} → (F → Refusal) → Result A F → Verdict A
verdict_of means (Ok a) = Ok a
verdict_of means (Err f) = Err (means f)

-- what a call leaves: `new` if it was done, and `old` if it was refused
abbrev pub new_or_old : {A B : Type 0} → Verdict A → B → B → B
new_or_old (Ok a) new old = new
new_or_old (Err f) new old = old
