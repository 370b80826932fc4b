-- What is left of a string whose tail is written.
use Rattle.std.proofs.Common.{◌≡◌, ℕ, suc, ◌+◌, ◌-◌, ◌≤◌, List, [], ◌∷◌, ◌++◌, length, take, drop, refl, ap, ◌∙◌, append-nil, arith}
use borrow.Rule.Slice.PartMut.{put_mid}
use Rattle.std.proofs.lemmas.List.{take_rest, drop_all, length-drop}
use Rattle.byte_strings.specs.Strings.{xors}

-- after a write to s[a..]
pub tail_written : {X : Type 0} (a : ℕ) (xs ys : List X) → put_mid a (length xs - a) xs ys ≡ take a xs ++ ys
tail_written a xs ys =
    let all : length (drop a xs) ≤ length xs - a = omega (arith, length-drop a xs) in
    ap (λ l. take a xs ++ (ys ++ l)) (drop_all (length xs - a) (drop a xs) all) ∙ ap (λ l. take a xs ++ l) (append-nil ys)

-- after a block was added to s[a..]
pub tail_added : (a : ℕ) (s k ys : List ℕ) → ys ≡ xors (take (length s - a) (drop a s)) k → put_mid a (length s - a) s ys ≡ take a s ++ xors (drop a s) k
tail_added a s k ys e = tail_written a s ys ∙ ap (λ (l : List ℕ). take a s ++ l) (e ∙ ap (λ (l : List ℕ). xors l k) (take_rest s a))

-- the first n + m bytes, where n stand before ys
pub take_past : {X : Type 0} (xs ys : List X) (n m : ℕ) → length xs ≡ n → take (n + m) (xs ++ ys) ≡ xs ++ take m ys
take_past [] ys n m h = let e : n + m ≡ m = omega arith in ap (λ k. take k ys) e
take_past (x ∷ xs) ys n m h =
    let e : n + m ≡ suc (length xs + m) = omega arith in
    ap (λ k. take k (x ∷ (xs ++ ys))) e ∙ ap (λ l. x ∷ l) (take_past xs ys (length xs) m refl)
