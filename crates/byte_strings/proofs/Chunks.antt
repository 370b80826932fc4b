-- Strings in chunks of n bytes each.
use Rattle.std.proofs.Common.{◌≡◌, ℕ, zero, suc, ◌+◌, ◌-◌, ◌*◌, ◌≤◌, List, ◌∷◌, take, drop, sym, refl, ap₂, ap, ◌∙◌, arith}
use Rattle.std.proofs.lemmas.List.{take-take, drop-take}
use Rattle.std.specs.Simd.{first_chunks}

-- the first k chunks of a string are those of its front
pub chunks_front : (n k m : ℕ) (xs : List ℕ) → k * n ≤ m → first_chunks n k (take m xs) ≡ first_chunks n k xs
chunks_front n zero m xs h = refl
chunks_front n (suc k) m xs h =
    let rest : n + (m - n) ≡ m = omega arith in
    ap₂ (λ (c : List ℕ) (cs : List (List ℕ)). c ∷ cs) (take-take n m xs (omega arith))
    (ap (λ (j : ℕ). first_chunks n k (drop n (take j xs))) (sym rest)
    ∙ ap (first_chunks n k) (drop-take n (m - n) xs)
    ∙ chunks_front n k (m - n) (drop n xs) (omega arith))
