-- Bytes that are shown, one more at a time.
use Rattle.std.proofs.Common.{◌≡◌, ℕ, zero, suc, ◌+◌, ◌<◌, List, [], ◌∷◌, ◌++◌, length, get_or, take, refl, ap, ◌∙◌, arith}
use Rattle.wraptool.specs.Digits.{two_digits, hex_digits}

-- one byte more is shown by its two digits behind the others
pub shown_more : (xs : List ℕ) (i : ℕ) → i < length xs → hex_digits (take (i + 1) xs) ≡ hex_digits (take i xs) ++ two_digits (get_or xs i 0)
shown_more [] i h = absurd (omega arith)
shown_more (x ∷ xs) zero h = refl
shown_more (x ∷ xs) (suc i) h =
    let e : suc i + 1 ≡ suc (i + 1) = omega arith in
    ap (λ n. hex_digits (take n (x ∷ xs))) e
    ∙ ap (λ (s : List ℕ). two_digits x ++ s) (shown_more xs i (omega arith))
