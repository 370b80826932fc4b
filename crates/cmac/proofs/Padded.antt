-- The padding as the code writes it.
use Rattle.std.proofs.Common.{◌≡◌, ℕ, ◌+◌, ◌-◌, ◌<◌, List, ◌∷◌, ◌++◌, length, set, replicate, ap, ◌∙◌, arith}
use Rattle.std.proofs.lemmas.List.{drop-set, drop-replicate, length-replicate}
use Rattle.byte_strings.specs.Strings.{overlay}
use Rattle.cmac.specs.Cmac.{padding}

-- a message written over k zeros, with v behind it, is the message, v, and the zeros left
marked : (k v : ℕ) (m : List ℕ) → length m < k → overlay (set (replicate k 0) (length m) v) 0 m ≡ m ++ (v ∷ replicate (k - (length m + 1)) 0)
marked k v m h =
    let n = length m in
    let within : length m < length (replicate k 0) = omega (arith, length-replicate {A = ℕ} k 0) in
    ap (λ (u : List ℕ). m ++ u) (drop-set (replicate k 0) n v within ∙ ap (λ (u : List ℕ). v ∷ u) (drop-replicate (n + 1) k 0))

-- a message written over a block of zeros, with 80 hexadecimal behind it, is padded
pub padded : (m : List ℕ) → length m < 16 → overlay (set (replicate 16 0) (length m) 0x80) 0 m ≡ padding m
unfolding padding
padded m h =
    let left : 16 - (length m + 1) ≡ 15 - length m = omega arith in
    marked 16 0x80 m h ∙ ap (λ (k : ℕ). m ++ (0x80 ∷ replicate k 0)) left
