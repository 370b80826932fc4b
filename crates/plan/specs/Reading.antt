-- What a line means: a strategy, one space, and a digit for each cradle from the first on.
use Rattle.std.specs.Prelude.{ℕ, ◌+◌, ◌-◌, if◌then◌else◌, ◌||◌, ◌==◌, nat_lt, Option, Some, None}
use Rattle.std.specs.Prelude.{List, [], ◌∷◌, ◌++◌, length, replicate, Result, Ok, Err}
use Rattle.tree.specs.declared.limits.TheConstants.{CRADLES}
use Rattle.tree.specs.declared.types.Code.{Code}
use Rattle.tree.specs.declared.types.Code.TheVariants.{Empty}
use Rattle.tree.specs.Rows.{code_of_number}
use Rattle.plan.specs.declared.bad.Bad.{Bad}
use Rattle.plan.specs.declared.bad.Bad.TheVariants.{Form, UnknownStrategy, RowLength, NotACode}
use Rattle.plan.specs.declared.lines.Choice.{Choice}
use Rattle.plan.specs.declared.lines.Choice.TheVariants.{Star, UserOriented, KeyOriented}
use Rattle.plan.specs.declared.lines.Request.{Request}

-- the code of a digit's byte: 48 to 52 have one
abbrev pub code_of_digit : ℕ → Option Code
code_of_digit digit = if nat_lt digit 48 then None else code_of_number (digit - 48)

-- codes, and others after them if those are good
abbrev pub codes_before : List Code → Result (List Code) Bad → Result (List Code) Bad
codes_before codes (Ok others) = Ok (codes ++ others)
codes_before codes (Err bad) = Err bad

-- the code of a cradle and those after it, or that the cradle has none
abbrev pub codes_with_first : ℕ → Option Code → Result (List Code) Bad → Result (List Code) Bad
codes_with_first cradle None others = Err (NotACode cradle)
codes_with_first cradle (Some code) others = codes_before (code ∷ []) others

-- the codes of the digits, the first of them that of a cradle; or the first cradle that has none
abbrev pub codes_from : ℕ → List ℕ → Result (List Code) Bad
codes_from cradle [] = Ok []
codes_from cradle (digit ∷ digits) =
    codes_with_first cradle (code_of_digit digit) (codes_from (cradle + 1) digits)

-- codes, if they are good, and empty cradles after them
abbrev pub padded_codes : ℕ → Result (List Code) Bad → Result (List Code) Bad
padded_codes count (Ok codes) = Ok (codes ++ replicate count Empty)
padded_codes count (Err bad) = Err bad

-- the row of 1 to 128 digits, those of the first cradles; or that there are none, or more
abbrev pub row_of : List ℕ → Result (List Code) Bad
row_of digits =
    if length digits == 0 || nat_lt CRADLES (length digits) then Err (RowLength (length digits))
    else padded_codes (CRADLES - length digits) (codes_from 1 digits)

-- the strategy of a digit's byte: 49 to 51 have one
abbrev pub choice_of : ℕ → Result Choice Bad
choice_of digit =
    if digit == 49 then Ok Star
    else (if digit == 50 then Ok UserOriented
    else (if digit == 51 then Ok KeyOriented
    else Err UnknownStrategy))

-- what is asked for: the strategy, if it is known, and the row, if it is good
abbrev pub request_of : Result Choice Bad → Result (List Code) Bad → Result (Option Request) Bad
request_of (Err bad) row = Err bad
request_of (Ok choice) (Err bad) = Err bad
request_of (Ok choice) (Ok row) = Ok (Some (record { choice = choice; row = row }))

-- what a line asks for; an empty line asks for nothing
abbrev pub request_of_line : List ℕ → Result (Option Request) Bad
request_of_line [] = Ok None
request_of_line (strategy ∷ []) = Err Form
request_of_line (strategy ∷ space ∷ digits) =
    if space == 32 then request_of (choice_of strategy) (row_of digits) else Err Form
