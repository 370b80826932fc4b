-- Lists in which no element occurs twice.
use Rattle.std.proofs.Common.{ℕ, zero, suc, ◌+◌, Bool, true, false, cond, List, [], ◌∷◌, ◌++◌, filter, refl, inl, inr, arith}
use Rattle.std.specs.List.{range_with_len}
use Rattle.tree.specs.Tree.{countdown}
use Rattle.tree.proofs.Members.{In, in_append, in_kept, in_counting, in_falling}

-- no number is equal to one behind it
abbrev pub HasNoRepeats : List ℕ → Type 0
HasNoRepeats [] = Unit {0}
HasNoRepeats (x ∷ xs) = (In x xs → ⊥) × HasNoRepeats xs

-- two such lists with nothing in common, one behind the other, are such a list
pub distinct_append : (xs ys : List ℕ) → HasNoRepeats xs → HasNoRepeats ys → ((x : ℕ) → In x xs → In x ys → ⊥) → HasNoRepeats (xs ++ ys)
distinct_append [] ys dx dy apart = dy
distinct_append (x ∷ xs) ys dx dy apart = (
  (λ h. elim (in_append xs ys x h) [ inl i ↦ dx.0 i | inr j ↦ apart x (inl refl) j ]),
  distinct_append xs ys dx.1 dy (λ z i j. apart z (inr i) j),
)

-- what a test keeps of such a list is such a list
pub distinct_kept : (test : ℕ → Bool) (xs : List ℕ) → HasNoRepeats xs → HasNoRepeats (filter test xs)
distinct_kept test [] d = tt
distinct_kept test (x ∷ xs) d = go (test x) (distinct_kept test xs d.1)
  where
    go : (b : Bool) → HasNoRepeats (filter test xs) → HasNoRepeats (cond b (x ∷ filter test xs) (filter test xs))
    go true r = ((λ h. d.0 (in_kept test xs x h).0), r)
    go false r = r

-- numbers that count up do not repeat
pub distinct_counting : (a n : ℕ) → HasNoRepeats (range_with_len a n)
distinct_counting a zero = tt
distinct_counting a (suc n) = ((λ h. omega (arith, (in_counting (a + 1) n a h).0)), distinct_counting (a + 1) n)

-- numbers that count down do not repeat
pub distinct_falling : (k : ℕ) → HasNoRepeats (countdown k)
distinct_falling zero = tt
distinct_falling (suc k) = ((λ h. omega (arith, (in_falling k (suc k) h).1)), distinct_falling k)
