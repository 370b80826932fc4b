-- The words of the key schedule, one more at a time.
use Rattle.std.proofs.Common.{◌≡◌, ℕ, ◌+◌, ◌-◌, ◌*◌, ◌/◌, ◌<◌, ◌≤◌, Bool, true, false, ◌||◌, eqb, ◌⊎◌, List, [], ◌∷◌, ◌++◌, length, get_or, take, drop, sym}
use Rattle.std.proofs.Common.{refl, ap, ◌∙◌, ap₂, inl, inr, append_assoc, add-one, arith, eqb-true}
use Rattle.std.proofs.lemmas.List.FromFn.{fill_by_all}
use Rattle.std.proofs.lemmas.List.{take_at, take-take, drop-take, length-append, length-take-le}
use Rattle.byte_strings.specs.Strings.{part, overlay, xors}
use Rattle.aes.specs.KeySchedule.{is_key_length, temp, next_word, expanded_key, key_expansion}

-- a word is the list of its four bytes
pub four : (a : List ℕ) → length a ≡ 4 → a ≡ get_or a 0 0 ∷ get_or a 1 0 ∷ get_or a 2 0 ∷ get_or a 3 0 ∷ []
four a h = fill_by_all (λ i. get_or a i 0) a 4 0 h (λ k l. refl)

-- a part of a front is the part of the whole
pub part_front : (n at end : ℕ) (w : List ℕ) → at + n ≤ end → part n at (take end w) ≡ part n at w
part_front n at end w h =
    let rest : at + (end - at) ≡ end = omega arith in
    ap (λ m. take n (drop at (take m w))) (sym rest)
    ∙ ap (take n) (drop-take at (end - at) w)
    ∙ take-take n (end - at) (drop at w) (omega arith)

-- a next word depends on the words before it alone
next_front : (nk i : ℕ) (w : List ℕ) → 0 < nk → nk ≤ i → next_word nk (take (4 * i) w) i ≡ next_word nk w i
unfolding next_word
next_front nk i w some past =
    ap₂ (λ a b. xors a (temp nk i b)) (part_front 4 (4 * (i - nk)) (4 * i) w (omega arith)) (part_front 4 (4 * (i - 1)) (4 * i) w (omega arith))

-- the next word, behind a key with n words more, makes it one with n + 1 more
expanded_more : (nk : ℕ) (key : List ℕ) (n : ℕ) → expanded_key nk key n ++ next_word nk (expanded_key nk key n) (nk + n) ≡ expanded_key nk key (n + 1)
unfolding expanded_key
expanded_more nk key n = rw add-one

-- the first nk words, taken as a key, are that key with no word more
pub expanded_none : (nk : ℕ) (w : List ℕ) → take (4 * nk) w ≡ expanded_key nk (take (4 * nk) w) (nk - nk)
unfolding expanded_key
expanded_none nk w = let none : nk - nk ≡ 0 = omega arith in rw none

-- the word i, where those before it are written, is one of the expansion more
pub word_more : (nk i : ℕ) (w key x : List ℕ) → 0 < nk → nk ≤ i → 4 * i + 4 ≤ length w → length x ≡ 4
    → take (4 * i) w ≡ expanded_key nk key (i - nk) → x ≡ next_word nk w i → take (4 * (i + 1)) (overlay w (4 * i) x) ≡ expanded_key nk key (i + 1 - nk)
word_more nk i w key x some past room long e is =
    let front : length (take (4 * i) w) ≡ 4 * i = length-take-le (4 * i) w (omega arith) in
    let both : length (take (4 * i) w ++ x) ≡ 4 * (i + 1) = length-append (take (4 * i) w) x ∙ omega (arith, front, long) in
    let here : nk + (i - nk) ≡ i = omega arith in
    let next : i - nk + 1 ≡ i + 1 - nk = omega arith in
    ap (take (4 * (i + 1))) (sym (append_assoc (take (4 * i) w) x (drop (length x) (drop (4 * i) w))))
    ∙ take_at (take (4 * i) w ++ x) (drop (length x) (drop (4 * i) w)) (4 * (i + 1)) both
    ∙ ap (λ l. take (4 * i) w ++ l) (is ∙ sym (next_front nk i w some past))
    ∙ ap (λ v. v ++ next_word nk v i) e
    ∙ ap (λ m. expanded_key nk key (i - nk) ++ next_word nk (expanded_key nk key (i - nk)) m) (sym here)
    ∙ expanded_more nk key (i - nk)
    ∙ ap (expanded_key nk key) next

-- the two lengths of a key, in words
key_words : (n : ℕ) → is_key_length n ≡ true → (4 ≤ n / 4) × (n / 4 ≤ 8) × (4 * (n / 4) ≡ n)
key_words n h = go (eqb n 16) refl
  where
    words : n ≡ 16 ⊎ n ≡ 32 → (4 ≤ n / 4) × (n / 4 ≤ 8) × (4 * (n / 4) ≡ n)
    words (inl e) = (omega arith, omega arith, omega arith)
    words (inr e) = (omega arith, omega arith, omega arith)

    other : (b c : Bool) → b || c ≡ true → b ≡ false → c ≡ true
    other true c e f = let z : ◌≡◌ {A = ℕ} 0 1 = cc in absurd (omega arith)
    other false c e f = e

    go : (b : Bool) → eqb n 16 ≡ b → (4 ≤ n / 4) × (n / 4 ≤ 8) × (4 * (n / 4) ≡ n)
    go true e = words (inl (eqb-true n 16 e))
    go false e = words (inr (eqb-true n 32 (other (eqb n 16) (eqb n 32) h e)))

-- the schedule's front is the key, so what follows makes it the key's
pub key_expanded : (n : ℕ) (key w : List ℕ) → is_key_length n ≡ true → length key ≡ n
    → expanded_key (n / 4) (take (4 * (n / 4)) (overlay w 0 key)) (3 * (n / 4) + 28) ≡ key_expansion key
unfolding key_expansion
key_expanded n key w is long =
    let whole : 4 * (n / 4) ≡ n = (key_words n is).2 in
    ap (λ k. expanded_key (n / 4) k (3 * (n / 4) + 28)) (take_at key (drop (length key) w) (4 * (n / 4)) (long ∙ sym whole))
    ∙ ap (λ m. expanded_key (m / 4) key (3 * (m / 4) + 28)) (sym long)
