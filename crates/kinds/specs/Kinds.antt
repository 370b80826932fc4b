-- The kinds of wraps: the number of each in a file, its digit as a word, and what its wrap means.
use Rattle.std.specs.Prelude.{ℕ, ◌==◌, if◌then◌else◌, List, [], ◌∷◌}
use Rattle.std.specs.Prelude.{Some, None, Option, Result, ok_or, option_map}
use Rattle.wrap.specs.Meaning.{WrapMeaning}
use Rattle.wrap_rules.specs.Meanings.{rfc_3394, rfc_5297}
use Rattle.kinds.specs.declared.kind.Kind.{Kind}
use Rattle.kinds.specs.declared.kind.Kind.TheVariants.{Rfc3394, Rfc5297}
use Rattle.kinds.specs.declared.kind.UnknownKind.{UnknownKind}

-- what the wrap of a kind means
abbrev pub kind_meaning : Kind → WrapMeaning
kind_meaning Rfc3394 = rfc_3394
kind_meaning Rfc5297 = rfc_5297

-- the number that stands for a kind in a file: its wrap's
abbrev pub kind_number : Kind → ℕ
kind_number kind = (kind_meaning kind).kind

-- the kind that a number stands for
abbrev pub kind_of_number : ℕ → Option Kind
kind_of_number number =
    if number == 1 then Some Rfc3394 else (if number == 2 then Some Rfc5297 else None)

-- that kind, or the error that there is none
abbrev pub kind_result_of_number : ℕ → Result Kind UnknownKind
kind_result_of_number number = ok_or (kind_of_number number) (record {})

-- the kind that a word names: the bytes of the digits 1 and 2 are 49 and 50
abbrev pub kind_of_word : List ℕ → Option Kind
kind_of_word [] = None
kind_of_word (digit ∷ []) =
    if digit == 49 then Some Rfc3394 else (if digit == 50 then Some Rfc5297 else None)
kind_of_word (digit ∷ next ∷ more) = None

-- that kind, or the error that there is none
abbrev pub kind_result_of_word : List ℕ → Result Kind UnknownKind
kind_result_of_word word = ok_or (kind_of_word word) (record {})

-- what the wrap means whose kind a number stands for
abbrev pub wrap_of_number : ℕ → Option WrapMeaning
wrap_of_number number = option_map kind_meaning (kind_of_number number)
