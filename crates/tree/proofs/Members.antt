-- Members of lists, and tests of some number. Contracts say `Contains`, and proofs go over `In`.
use Rattle.std.proofs.Common.{◌≡◌, ℕ, zero, suc, ◌+◌, ◌<◌, ◌≤◌, Bool, true, false, cond, ◌⊎◌, List, [], ◌∷◌, ◌++◌, map, filter, Contains, sym, refl, ap, ◌∙◌}
use Rattle.std.proofs.Common.{subst, inl, inr, arith}
use Rattle.std.specs.List.{range_with_len, flat_map, list_any}
use Rattle.std.proofs.lemmas.Bool.{cases_eq, or_left, or_right, or_cases, false≢true}
use Rattle.tree.specs.Tree.{countdown}

-- is x one of these? `Contains` by recursion, as proofs want it; the bridges are in_contains and contains_in
abbrev pub In : {A : Type 0} → A → List A → Type 0
In x [] = ⊥
In x (y ∷ ys) = (x ≡ y) ⊎ In x ys

module _ {A : Type 0} where
  -- a member is contained in the list, as contracts say it
  pub in_contains : (xs : List A) (x : A) → In x xs → Contains xs x
  in_contains [] x h = absurd h
  in_contains (y ∷ ys) x (inl e) = (0, omega arith, sym e)
  in_contains (y ∷ ys) x (inr h) = let c = in_contains ys x h in (suc c.0, omega (arith, c.1), c.2)

  -- what a list contains is a member of it
  pub contains_in : (xs : List A) (x : A) → Contains xs x → In x xs
  contains_in [] x c = absurd (omega (arith, c.1))
  contains_in (y ∷ ys) x (zero, l, e) = inl (sym e)
  contains_in (y ∷ ys) x (suc k, l, e) = inr (contains_in ys x (k, omega arith, e))

  -- what is in two lists joined is in one of them
  pub in_append : (xs ys : List A) (x : A) → In x (xs ++ ys) → In x xs ⊎ In x ys
  in_append [] ys x h = inr h
  in_append (y ∷ xs) ys x (inl e) = inl (inl e)
  in_append (y ∷ xs) ys x (inr h) = elim (in_append xs ys x h) [ inl i ↦ inl (inr i) | inr j ↦ inr j ]

  -- what is in the first list is in both joined
  pub in_left : (xs ys : List A) (x : A) → In x xs → In x (xs ++ ys)
  in_left [] ys x h = absurd h
  in_left (y ∷ xs) ys x (inl e) = inl e
  in_left (y ∷ xs) ys x (inr h) = inr (in_left xs ys x h)

  -- what is in the second list is in both joined
  pub in_right : (xs ys : List A) (x : A) → In x ys → In x (xs ++ ys)
  in_right [] ys x h = h
  in_right (y ∷ xs) ys x h = inr (in_right xs ys x h)

  -- what a filter keeps was in the list, and passes the test
  pub in_kept : (p : A → Bool) (xs : List A) (x : A) → In x (filter p xs) → In x xs × (p x ≡ true)
  in_kept p [] x h = absurd h
  in_kept p (y ∷ xs) x h = go (λ i. in_kept p xs x i) (p y) refl h
    where
      go : (In x (filter p xs) → In x xs × (p x ≡ true)) → (b : Bool) → p y ≡ b → In x (cond b (y ∷ filter p xs) (filter p xs)) → In x (y ∷ xs) × (p x ≡ true)
      go rest true e (inl q) = (inl q, ap p q ∙ e)
      go rest true e (inr i) = (inr (rest i).0, (rest i).1)
      go rest false e i = (inr (rest i).0, (rest i).1)

  -- a member that passes the test is kept by the filter
  pub kept_in : (p : A → Bool) (xs : List A) (x : A) → In x xs → p x ≡ true → In x (filter p xs)
  kept_in p [] x h e = absurd h
  kept_in p (y ∷ xs) x (inl q) e = rw (sym (ap p q) ∙ e) (inl q)
  kept_in p (y ∷ xs) x (inr h) e = go (p y) (kept_in p xs x h e)
    where
      go : (b : Bool) → In x (filter p xs) → In x (cond b (y ∷ filter p xs) (filter p xs))
      go true i = inr i
      go false i = i

module _ {A B : Type 0} where
  -- what is in a mapped list is the image of a member
  pub in_map : (f : A → B) (xs : List A) (y : B) → In y (map f xs) → (x : A) × (In x xs × (y ≡ f x))
  in_map f [] y h = absurd h
  in_map f (x ∷ xs) y (inl e) = (x, (inl refl, e))
  in_map f (x ∷ xs) y (inr h) = let r = in_map f xs y h in (r.0, (inr r.1.0, r.1.1))

  -- the image of a member is in the mapped list
  pub map_in : (f : A → B) (xs : List A) (x : A) → In x xs → In (f x) (map f xs)
  map_in f [] x h = absurd h
  map_in f (y ∷ xs) x (inl e) = inl (ap f e)
  map_in f (y ∷ xs) x (inr h) = inr (map_in f xs x h)

  -- what is in the joined lists is in the list that some member gives
  pub in_joined : (f : A → List B) (xs : List A) (y : B) → In y (flat_map f xs) → (x : A) × (In x xs × In y (f x))
  in_joined f [] y h = absurd h
  in_joined f (x ∷ xs) y h = elim (in_append (f x) (flat_map f xs) y h) [
    | inl i ↦ (x, (inl refl, i))
    | inr j ↦ let r = in_joined f xs y j in (r.0, (inr r.1.0, r.1.1))
  ]

  -- what is in the list that a member gives is in the joined lists
  pub joined_in : (f : A → List B) (xs : List A) (x : A) (y : B) → In x xs → In y (f x) → In y (flat_map f xs)
  joined_in f [] x y h i = absurd h
  joined_in f (z ∷ xs) x y (inl e) i = in_left (f z) (flat_map f xs) y (subst (λ (w : A). In y (f w)) e i)
  joined_in f (z ∷ xs) x y (inr h) i = in_right (f z) (flat_map f xs) y (joined_in f xs x y h i)

-- of n numbers counted from a on, each is at least a and below a + n
pub in_counting : (a n i : ℕ) → In i (range_with_len a n) → (a ≤ i) × (i < a + n)
in_counting a zero i h = absurd h
in_counting a (suc n) i (inl e) = (omega arith, omega arith)
in_counting a (suc n) i (inr h) = let r = in_counting (a + 1) n i h in (omega arith, omega arith)

-- each number from a on, and below a + n, is counted
pub counting_in : (a n i : ℕ) → a ≤ i → i < a + n → In i (range_with_len a n)
counting_in a zero i l h = absurd (omega arith)
counting_in a (suc n) i l h = elim (cases_eq i a) [ inl e ↦ inl e | inr x ↦ inr (counting_in (a + 1) n i (omega arith) (omega arith)) ]

-- a countdown from k has each number from 1 to k
pub falling_in : (k i : ℕ) → 0 < i → i ≤ k → In i (countdown k)
falling_in zero i l h = absurd (omega arith)
falling_in (suc k) i l h = elim (cases_eq i (suc k)) [ inl e ↦ inl e | inr x ↦ inr (falling_in k i l (omega arith)) ]

-- one member that passes is enough
pub some_from : (test : ℕ → Bool) (xs : List ℕ) (x : ℕ) → In x xs → test x ≡ true → list_any test xs ≡ true
some_from test [] x h e = absurd h
some_from test (y ∷ ys) x (inl q) e = or_left (test y) (list_any test ys) (sym (ap test q) ∙ e)
some_from test (y ∷ ys) x (inr h) e = or_right (test y) (list_any test ys) (some_from test ys x h e)

-- where some member passes, it can be named
pub some_who : (test : ℕ → Bool) (xs : List ℕ) → list_any test xs ≡ true → (x : ℕ) × (In x xs × (test x ≡ true))
some_who test [] e = absurd (false≢true e)
some_who test (y ∷ ys) e = elim (or_cases (test y) (list_any test ys) e) [
  | inl q ↦ (y, (inl refl, q))
  | inr r ↦ let w = some_who test ys r in (w.0, (inr w.1.0, w.1.1))
]

-- what is counted down from k lies between 1 and k
pub in_falling : (k i : ℕ) → In i (countdown k) → (0 < i) × (i ≤ k)
in_falling zero i h = absurd h
in_falling (suc k) i (inl e) = (omega arith, omega arith)
in_falling (suc k) i (inr h) = let r = in_falling k i h in (r.0, omega arith)
