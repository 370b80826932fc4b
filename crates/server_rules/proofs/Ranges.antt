-- A test of a range says what its bounds say.
use Rattle.std.proofs.Common.{◌≡◌, ℕ, ◌≤◌, true, false, ◌&&◌, leb}
use Rattle.std.proofs.lemmas.Bool.{and_parts, and_from, leb-true, le-leb, false_from_ne_true}

-- what passes the test is between the bounds
pub in_range : (low high n : ℕ) → leb low n && leb n high ≡ true → (low ≤ n) × (n ≤ high)
in_range low high n e = let p = and_parts (leb low n) (leb n high) e in (leb-true low n p.0, leb-true n high p.1)

-- what is between the bounds passes the test
pub range_in : (low high n : ℕ) → (low ≤ n) × (n ≤ high) → leb low n && leb n high ≡ true
range_in low high n r = and_from (leb low n) (leb n high) (le-leb low n r.0) (le-leb n high r.1)

-- what is not between the bounds does not pass
pub not_range : (low high n : ℕ) → ((low ≤ n) × (n ≤ high) → ⊥) → leb low n && leb n high ≡ false
not_range low high n out = false_from_ne_true _ (λ e. out (in_range low high n e))
