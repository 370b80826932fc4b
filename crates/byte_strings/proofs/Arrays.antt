-- Arrays that a closure makes of each element of another array, or of each index, where its calls leave the closure as it is.
use Rattle.std.proofs.Common.{◌≡◌, ℕ, zero, suc, ◌+◌, ◌<◌, List, ◌∷◌, map, length, drop, sym, ap, ap₂, subst, ◌∙◌, arith}
use Rattle.std.proofs.lemmas.List.{drop_all, drop_more}
use Rattle.std.specs.Array.{MapsFrom, IsMapOf, IsFromFnResultFrom, IsFromFnResult}
use Rattle.std.specs.Fn.{Called}
use Rattle.std.specs.List.{range_with_len}
use denote.Param.Members.{Mut}

module _ {F B : Type 0} (g : Mut F (ℕ × Unit {0}) B) (h : ℕ → B) (f : F)
    (gives : (x : ℕ) (y : B) (q : F) → Called g f (x, tt) y q → (y ≡ h x) × (q ≡ f)) (ys : List B) where
  -- the n elements from index i on are what h makes of their indices
  made_from : (n i : ℕ) → length ys ≡ i + n → IsFromFnResultFrom g f ys i n → drop i ys ≡ map h (range_with_len i n)
  made_from zero i long made = drop_all i ys (omega arith)
  made_from (suc n) i long (q, y, here, call, rest) =
      let inside : i < length ys = omega arith in
      let on : length ys ≡ i + 1 + n = omega arith in
      let one = gives i y q call in
      drop_more ys i y inside
      ∙ ap₂ (λ (v : B) (l : List B). v ∷ l) (here.1 y ∙ one.0) (made_from n (i + 1) on (subst (λ (p : F). IsFromFnResultFrom g p ys (i + 1) n) one.1 rest))

  -- by index, as array::from_fn
  pub made_by : (n : ℕ) → IsFromFnResult g f ys n → ys ≡ map h (range_with_len 0 n)
  made_by n made = made_from n 0 (made.long ∙ omega arith) made.each

module _ {F A B : Type 0} (g : Mut F (A × Unit {0}) B) (h : A → B) (f : F)
    (gives : (x : A) (y : B) (q : F) → Called g f (x, tt) y q → (y ≡ h x) × (q ≡ f)) (ys : List B) where
  -- the n elements from index i on are what h makes of those of the other array
  mapped_from : (xs : List A) (n i : ℕ) → length xs ≡ i + n → length ys ≡ i + n → MapsFrom g f xs ys i n → drop i ys ≡ map h (drop i xs)
  mapped_from xs zero i lx ly made = drop_all i ys (omega arith) ∙ sym (ap (map h) (drop_all i xs (omega arith)))
  mapped_from xs (suc n) i lx ly (q, x, y, from, here, call, rest) =
      let inx : i < length xs = omega arith in
      let iny : i < length ys = omega arith in
      let onx : length xs ≡ i + 1 + n = omega arith in
      let ony : length ys ≡ i + 1 + n = omega arith in
      let one = gives x y q call in
      drop_more ys i y iny
      ∙ ap₂ (λ (v : B) (l : List B). v ∷ l) (here.1 y ∙ one.0 ∙ ap h (sym (from.1 x)))
      (mapped_from xs n (i + 1) onx ony (subst (λ (p : F). MapsFrom g p xs ys (i + 1) n) one.1 rest))
      ∙ sym (ap (map h) (drop_more xs i x inx))

  -- by element, as map
  pub mapped : (xs : List A) (n : ℕ) → length xs ≡ n → IsMapOf g f xs ys n → ys ≡ map h xs
  mapped xs n long made = mapped_from xs n 0 (long ∙ omega arith) (made.long ∙ omega arith) made.each
