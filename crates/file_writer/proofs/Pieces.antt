-- Pieces of n bytes each, written over a string one after the other.
use Rattle.std.proofs.Common.{◌≡◌, ℕ, ◌+◌, ◌*◌, ◌<◌, ◌≤◌, List, [], ◌++◌, map, length, get_or, take, drop, sym, ap, ◌∙◌, ap₂, zero-mul, add-mul}
use Rattle.std.proofs.Common.{mul-le-mul_right, arith}
use Rattle.std.proofs.lemmas.List.{take_all, drop_all, append-nil, map_more, flat_map_more, length-append, length-drop}
use Rattle.std.specs.List.{flat_map}
use borrow.Rule.Slice.PartMut.{put_mid}
use Rattle.byte_strings.proofs.Overs.{over_next}
use Rattle.file_rules.proofs.Places.{piece_inside}

module _ {X Y : Type 0} (g : Y → List ℕ) (f : X → Y) (xs : List X) (n : ℕ) (s : List ℕ) where
  -- the first i pieces are written
  pub pieces : ℕ → List ℕ
  pieces i = flat_map g (map f (take i xs)) ++ drop (i * n) s

  -- before the first, the string is as it was
  pub no_piece : s ≡ pieces 0
  unfolding pieces
  no_piece = ap (λ (m : ℕ). drop m s) (sym (zero-mul n))

  -- the next piece, written behind them
  pub next_piece : (out place : List ℕ) (i k : ℕ) (d : X) → length s ≡ length xs * n → out ≡ pieces i → length out ≡ length s →
      i < length xs → place ≡ g (f (get_or xs i d)) → length place ≡ n → k ≡ n → put_mid (i * n) k out place ≡ pieces (i + 1)
  unfolding pieces
  next_piece out place i k d room e long h here size part =
      let P : List ℕ = flat_map g (map f (take i xs)) in
      let front : length P ≡ i * n =
      omega (arith, ap length e, length-append P (drop (i * n) s), length-drop (i * n) s, room, piece_inside n i (length xs) h) in
      let end : i * n + length place ≡ (i + 1) * n = omega (arith, size, add-mul i 1 n) in
      let more : P ++ place ≡ flat_map g (map f (take (i + 1) xs)) =
      ap (λ (l : List ℕ). P ++ l) here
      ∙ flat_map_more g [] (map f (take i xs)) (f (get_or xs i d))
      ∙ ap (flat_map g) (sym (map_more f xs i d h)) in
      ap₂ (λ (l : List ℕ) (m : ℕ). put_mid (i * n) m l place) e (part ∙ sym size)
      ∙ over_next P s place (i * n) front
      ∙ ap₂ (λ (l : List ℕ) (m : ℕ). l ++ drop m s) more end

  -- after the last, nothing of it is left
  pub all_pieces : (i : ℕ) → length s ≡ length xs * n → length xs ≤ i → pieces i ≡ flat_map g (map f xs)
  unfolding pieces
  all_pieces i room e =
      let over : length s ≤ i * n = omega (arith, room, mul-le-mul_right {m = length xs} {n = i} n e) in
      ap₂ (λ (l : List X) (r : List ℕ). flat_map g (map f l) ++ r) (take_all i xs e) (drop_all (i * n) s over)
      ∙ append-nil (flat_map g (map f xs))
