-- A state is the list of its sixteen bytes, so a transformation of it may be written out.
use Rattle.std.proofs.Common.{◌≡◌, ℕ, List, [], ◌∷◌, length, get_or, refl}
use Rattle.std.proofs.lemmas.List.FromFn.{fill_by_all}

-- a string of length 16 is the list of what stands at its sixteen places
pub sixteen : (s : List ℕ) → length s ≡ 16
    → s ≡ get_or s 0 0 ∷ get_or s 1 0 ∷ get_or s 2 0 ∷ get_or s 3 0 ∷ get_or s 4 0 ∷ get_or s 5 0 ∷ get_or s 6 0 ∷ get_or s 7 0
    ∷ get_or s 8 0 ∷ get_or s 9 0 ∷ get_or s 10 0 ∷ get_or s 11 0 ∷ get_or s 12 0 ∷ get_or s 13 0 ∷ get_or s 14 0 ∷ get_or s 15 0 ∷ []
sixteen s h = fill_by_all (λ i. get_or s i 0) s 16 0 h (λ k l. refl)
