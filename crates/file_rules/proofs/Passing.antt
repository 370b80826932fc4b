-- Fields have no fault where each ends within the file and is right.
use Rattle.std.proofs.Common.{◌≡◌, ℕ, ◌+◌, ◌≤◌, true, List, [], ◌∷◌, None, refl, arith}
use Rattle.file_rules.specs.Fields.{FileField, fault_place}

-- each of the fields is there and has a right value
abbrev pub AllPass : ℕ → List FileField → Type 0
AllPass len [] = Unit {0}
AllPass len (f ∷ fs) = (f.at + f.size ≤ len) × ((f.right ≡ true) × AllPass len fs)

-- fields that all pass have no fault
pub pass_all : (len : ℕ) (fs : List FileField) → AllPass len fs → fault_place len fs ≡ None
pass_all len [] p = refl
pass_all len (f ∷ fs) (l, (r, more)) = let rest = pass_all len fs more in grind arith
