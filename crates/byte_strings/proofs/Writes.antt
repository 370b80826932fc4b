-- A string that is written from its front, one byte more.
use Rattle.std.proofs.Common.{◌≡◌, ℕ, ◌+◌, ◌<◌, List, [], ◌∷◌, ◌++◌, length, get_or, drop, set, sym, ap, ◌∙◌, append_assoc}
use Rattle.std.proofs.lemmas.List.{drop_more, set_at, get_or_at}

-- one element more of a string that is written from its front
pub write_more : (P xs : List ℕ) (i v : ℕ) → length P ≡ i → i < length xs → set (P ++ drop i xs) i v ≡ (P ++ (v ∷ [])) ++ drop (i + 1) xs
write_more P xs i v lp h = ap (λ l. set (P ++ l) i v) (drop_more xs i 0 h) ∙ set_at P _ _ v i lp ∙ sym (append_assoc P (v ∷ []) (drop (i + 1) xs))

-- the place that is written next is still as it was
pub read_here : (P xs : List ℕ) (i : ℕ) → length P ≡ i → i < length xs → get_or (P ++ drop i xs) i 0 ≡ get_or xs i 0
read_here P xs i lp h = ap (λ l. get_or (P ++ l) i 0) (drop_more xs i 0 h) ∙ get_or_at P _ _ 0 i lp
