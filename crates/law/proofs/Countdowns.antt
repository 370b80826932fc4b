-- The numbers from k down to 1.
use Rattle.std.proofs.Common.{◌≡◌, ℕ, suc, ◌+◌, ◌∷◌, ap, ◌∙◌, sym, arith}
use Rattle.tree.specs.Tree.{countdown}

-- one number more stands in front
pub falling_next : (k : ℕ) → countdown (k + 1) ≡ (k + 1) ∷ countdown k
falling_next k = let e : k + 1 ≡ suc k = omega arith in ap countdown e ∙ ap (λ n. n ∷ countdown k) (sym e)
