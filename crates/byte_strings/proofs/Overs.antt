-- Strings that are written one after the other.
use Rattle.std.proofs.Common.{◌≡◌, ℕ, ◌+◌, ◌≤◌, List, [], ◌++◌, length, drop, sym, refl, ap, ◌∙◌, ap₂, append_assoc, append-nil, arith}
use Rattle.std.proofs.lemmas.List.{take_at, drop_at, drop-drop, drop_all, length-append}
use Rattle.byte_strings.specs.Strings.{overlay}

-- P stands at the front of s, and y is written behind it
pub over_next : (P s y : List ℕ) (at : ℕ) → length P ≡ at → overlay (P ++ drop at s) at y ≡ (P ++ y) ++ drop (at + length y) s
over_next P s y at h =
    ap₂ (λ (p q : List ℕ). p ++ (y ++ q)) (take_at P (drop at s) at h)
    (ap (drop (length y)) (drop_at P (drop at s) at h) ∙ drop-drop (length y) at s)
    ∙ sym (append_assoc P y (drop (at + length y) s))

-- x is written at the front of s, then y behind it, as far as s reaches
pub written_two : {s₁ s₂ : List ℕ} (s x y : List ℕ) (m : ℕ) → s₁ ≡ overlay s 0 x → s₂ ≡ overlay s₁ m y → length x ≡ m → length s ≡ m + length y → s₂ ≡ x ++ y
written_two s x y m e₁ e₂ hx hs =
    let here : 0 + length x ≡ m = omega arith in
    let end : length s ≤ m + length y = omega arith in
    e₂
    ∙ ap (λ (l : List ℕ). overlay l m y) (e₁ ∙ over_next [] s x 0 refl ∙ ap (λ (n : ℕ). x ++ drop n s) here)
    ∙ over_next x s y m hx
    ∙ ap (λ (l : List ℕ). (x ++ y) ++ l) (drop_all (m + length y) s end)
    ∙ append-nil (x ++ y)

-- and z behind both
pub written_three : {s₁ s₂ s₃ : List ℕ} (s x y z : List ℕ) (m n : ℕ)
    → s₁ ≡ overlay s 0 x → s₂ ≡ overlay s₁ m y → s₃ ≡ overlay s₂ n z → length x ≡ m → m + length y ≡ n → length s ≡ n + length z → s₃ ≡ x ++ (y ++ z)
written_three s x y z m n e₁ e₂ e₃ hx hy hs =
    let here : 0 + length x ≡ m = omega arith in
    let front : length (x ++ y) ≡ n = length-append x y ∙ omega arith in
    let end : length s ≤ n + length z = omega arith in
    e₃
    ∙ ap (λ (l : List ℕ). overlay l n z) (e₂ ∙ ap (λ (l : List ℕ). overlay l m y) (e₁ ∙ over_next [] s x 0 refl ∙ ap (λ (k : ℕ). x ++ drop k s) here))
    ∙ ap (λ (l : List ℕ). overlay l n z) (over_next x s y m hx ∙ ap (λ (k : ℕ). (x ++ y) ++ drop k s) hy)
    ∙ over_next (x ++ y) s z n front
    ∙ ap (λ (l : List ℕ). ((x ++ y) ++ z) ++ l) (drop_all (n + length z) s end)
    ∙ append-nil ((x ++ y) ++ z)
    ∙ append_assoc x y z
