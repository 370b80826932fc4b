-- A row is filled from its first cradle on, and the cradles that are not yet reached are empty.
use Rattle.std.proofs.Common.{◌≡◌, ℕ, ◌+◌, ◌-◌, ◌<◌, ◌≤◌, List, [], ◌∷◌, ◌++◌, length, get_or, take, drop, set, replicate, Some, Ok, Err, Option, Result, sym}
use Rattle.std.proofs.Common.{refl, ap, ◌∙◌, arith}
use Rattle.std.proofs.lemmas.List.{append_assoc, length-drop, length-replicate, take_more_set, drop-drop, drop-set-lt, drop-replicate, at_drop_more}
use Rattle.tree.specs.declared.types.Code.{Code}
use Rattle.tree.specs.declared.types.Code.TheVariants.{Empty}
use Rattle.plan.specs.declared.bad.Bad.{Bad}
use Rattle.plan.specs.Reading.{code_of_digit, codes_before, codes_with_first, codes_from}

-- codes put before others in two parts are put before them all at once
before_append : (xs ys : List Code) (r : Result (List Code) Bad) → codes_before (xs ++ ys) r ≡ codes_before xs (codes_before ys r)
before_append xs ys (Ok codes) = ap Ok (append_assoc xs ys codes)
before_append xs ys (Err bad) = refl

-- i digits are read into the row
pub record IsFilled (digits : List ℕ) (i : ℕ) (row : List Code) : Type 0 where
  pub read : codes_before (take i row) (codes_from (i + 1) (drop i digits)) ≡ codes_from 1 digits
  pub empty : drop i row ≡ replicate (128 - i) Empty

-- the next digit's code, if it has one, stands after the codes that were read
pub filled_next : (digits : List ℕ) (i : ℕ) (row : List Code) (o : Option Code) → i < length digits → code_of_digit (get_or digits i 0) ≡ o
    → IsFilled digits i row
    → codes_before (take i row) (codes_with_first (i + 1) o (codes_from (i + 1 + 1) (drop (i + 1) digits))) ≡ codes_from 1 digits
filled_next digits i row o h e f =
    ap (λ p. codes_before (take i row) (codes_with_first (i + 1) p (codes_from (i + 1 + 1) (drop (i + 1) digits)))) (sym e)
    ∙ sym (at_drop_more (λ ds. codes_before (take i row) (codes_from (i + 1) ds)) digits i 0 h)
    ∙ f.read

-- with the code of the next digit set in its cradle, one digit more is read
pub filled_more : (digits : List ℕ) (i : ℕ) (row : List Code) (code : Code) → i < length digits → length digits ≤ 128
    → code_of_digit (get_or digits i 0) ≡ Some code → IsFilled digits i row → IsFilled digits (i + 1) (set row i code)
filled_more digits i row code h few e f =
    let rest = codes_from (i + 1 + 1) (drop (i + 1) digits) in
    let left : length row - i ≡ 128 - i = sym (length-drop i row) ∙ ap length f.empty ∙ length-replicate (128 - i) Empty in
    let within : i < length row = omega (arith, left) in
    let less : 128 - i - 1 ≡ 128 - (i + 1) = omega arith in
    record {
      read =
          ap (λ xs. codes_before xs rest) (take_more_set row i code within)
          ∙ before_append (take i row) (code ∷ []) rest
          ∙ filled_next digits i row (Some code) h e f;
      empty =
          drop-set-lt (i + 1) row i code (omega arith)
          ∙ sym (drop-drop 1 i row)
          ∙ ap (drop 1) f.empty
          ∙ drop-replicate 1 (128 - i) Empty
          ∙ ap (λ n. replicate n Empty) less;
    }
