-- How many of a list pass a test.
use Rattle.std.proofs.Common.{◌≡◌, ℕ, ◌+◌, ◌<◌, ◌≤◌, Bool, true, false, cond, ◌⊎◌, List, [], ◌∷◌, map, length, filter, sym, refl, ap, ◌∙◌, inl, inr, arith}
use Rattle.tree.proofs.Members.{In}

-- 1 for a test that passes
abbrev pub bit : Bool → ℕ
bit true = 1
bit false = 0

-- what passes only where one of two others does counts no more than both of them
bit_or : (a b c : Bool) → (a ≡ true → (b ≡ true) ⊎ (c ≡ true)) → bit a ≤ bit b + bit c
bit_or true b c h = elim (h refl) [ inl e ↦ omega (arith, ap bit e) | inr e ↦ omega (arith, ap bit e) ]
bit_or false b c h = omega arith

module _ {A : Type 0} where
  -- one member more counts as 1 if it passes, and as 0 if not
  pub kept_more : (p : A → Bool) (x : A) (xs : List A) → length (filter p (x ∷ xs)) ≡ bit (p x) + length (filter p xs)
  kept_more p x xs =
      elim (p x) as (λ b. length (cond b (x ∷ filter p xs) (filter p xs)) ≡ bit b + length (filter p xs)) [ true ↦ omega arith | false ↦ omega arith ]

  -- whatever passes p passes q or r
  pub kept_or : (p q r : A → Bool) (xs : List A) → ((x : A) → In x xs → p x ≡ true → (q x ≡ true) ⊎ (r x ≡ true))
      → length (filter p xs) ≤ length (filter q xs) + length (filter r xs)
  kept_or p q r [] h = omega arith
  kept_or p q r (x ∷ xs) h =
      omega (arith, kept_more p x xs, kept_more q x xs, kept_more r x xs, bit_or (p x) (q x) (r x) (h x (inl refl)), kept_or p q r xs (λ y i. h y (inr i)))

  -- whatever passes p passes q
  pub kept_le : (p q : A → Bool) (xs : List A) → ((x : A) → In x xs → p x ≡ true → q x ≡ true) → length (filter p xs) ≤ length (filter q xs)
  kept_le p q [] h = omega arith
  kept_le p q (x ∷ xs) h =
      omega (arith, kept_more p x xs, kept_more q x xs, bit_or (p x) (q x) false (λ e. inl (h x (inl refl) e)), kept_le p q xs (λ y i. h y (inr i)))

  -- and u passes q only
  pub kept_lt : (p q : A → Bool) (xs : List A) (u : A) → ((x : A) → In x xs → p x ≡ true → q x ≡ true)
      → In u xs → (p u ≡ true → ⊥) → q u ≡ true → length (filter p xs) < length (filter q xs)
  kept_lt p q [] u h i f t = absurd i
  kept_lt p q (x ∷ xs) u h (inl e) f t =
      omega (
        arith,
        kept_more p x xs,
        kept_more q x xs,
        bit_or (p x) false false (λ d. absurd (f (ap p e ∙ d))),
        ap bit (sym (ap q e) ∙ t),
        kept_le p q xs (λ y j. h y (inr j)),
      )
  kept_lt p q (x ∷ xs) u h (inr i) f t =
      omega (arith, kept_more p x xs, kept_more q x xs, bit_or (p x) (q x) false (λ e. inl (h x (inl refl) e)), kept_lt p q xs u (λ y j. h y (inr j)) i f t)

-- of a mapped list as many pass as there are members whose image passes
pub kept_map : {A B : Type 0} (p : B → Bool) (f : A → B) (xs : List A) → length (filter p (map f xs)) ≡ length (filter (λ x. p (f x)) xs)
kept_map p f [] = refl
kept_map p f (x ∷ xs) = omega (arith, kept_more p (f x) (map f xs), kept_more (λ y. p (f y)) x xs, kept_map p f xs)
