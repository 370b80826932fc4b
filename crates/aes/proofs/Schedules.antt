-- The key expansion is the one schedule of its key.
use Rattle.std.proofs.Common.{◌≡◌, ℕ, zero, suc, ◌+◌, ◌-◌, ◌*◌, ◌/◌, ◌<◌, ◌≤◌, List, ◌++◌, length, take, drop, sym, refl, ap, ◌∙◌, ap₂, subst, inl, inr, arith}
use Rattle.std.proofs.lemmas.Bool.{cases_eq, cases_lt}
use Rattle.std.proofs.lemmas.List.{take_at, take_all, length-append, length-drop, length-take-le}
use lib.Seq.{take-add}
use Rattle.byte_strings.specs.Strings.{part, xors}
use Rattle.byte_strings.proofs.Xors.{xors_length}
use Rattle.byte_strings.proofs.Parts.{last_part}
use Rattle.aes.specs.KeySchedule.{word, temp, next_word, expanded_key, key_expansion}
use Rattle.aes.specs.Laws.{IsSchedule, HasOneSchedule}
use Rattle.aes.proofs.Words.{part_front}

-- Words of strings.

-- a word that lies within a string has 4 bytes
pub word_length : (w : List ℕ) (i : ℕ) → 4 * i + 4 ≤ length w → length (word w i) ≡ 4
word_length w i h = length-take-le 4 (drop (4 * i) w) (omega (arith, length-drop (4 * i) w))

-- the words of a front of n words, whatever stands behind it
pub word_before : (w x : List ℕ) (n i : ℕ) → length w ≡ 4 * n → i < n → word (w ++ x) i ≡ word w i
word_before w x n i long l =
    sym (part_front 4 (4 * i) (4 * n) (w ++ x) (omega arith)) ∙ ap (part 4 (4 * i)) (take_at w x (4 * n) long)

-- the word that follows it
pub word_behind : (w x : List ℕ) (n : ℕ) → length w ≡ 4 * n → length x ≡ 4 → word (w ++ x) n ≡ x
word_behind w x n long four = last_part w x (4 * n) 4 long four

-- strings whose first n words are the same have the same first 4 n bytes
same_front : (w v : List ℕ) (n : ℕ) → ((i : ℕ) → i < n → word w i ≡ word v i) → take (4 * n) w ≡ take (4 * n) v
same_front w v zero h = refl
same_front w v (suc n) h =
    let more : 4 * suc n ≡ 4 * n + 4 = omega arith in
    ap (λ k. take k w) more ∙ take-add (4 * n) 4 w
    ∙ ap₂ ◌++◌ (same_front w v n (λ i l. h i (omega arith))) (h n (omega arith))
    ∙ sym (ap (λ k. take k v) more ∙ take-add (4 * n) 4 v)

-- two strings of n words each are the same where their words are
pub same_words : (w v : List ℕ) (n : ℕ) → length w ≡ 4 * n → length v ≡ 4 * n → ((i : ℕ) → i < n → word w i ≡ word v i) → w ≡ v
same_words w v n lw lv h =
    sym (take_all (4 * n) w (omega arith)) ∙ same_front w v n h ∙ take_all (4 * n) v (omega arith)

-- Schedules.

module _ (nk : ℕ) (some : 1 ≤ nk) (key : List ℕ) where
  -- the words of w before the word n are those of a schedule
  pub record IsScheduleTo (n : ℕ) (w : List ℕ) : Type 0 where
    pub key_words : (i : ℕ) → i < nk → word w i ≡ word key i
    pub later_words : (i : ℕ) → nk ≤ i → i < n → word w i ≡ xors (word w (i - nk)) (temp nk i (word w (i - 1)))

  -- one word more, made by the rule, where the words before it stay
  pub rules_more : (n : ℕ) (w v : List ℕ) → nk ≤ n → ((i : ℕ) → i < n → word v i ≡ word w i) → word v n ≡ next_word nk w n → IsScheduleTo n w
      → IsScheduleTo (n + 1) v
  unfolding next_word
  rules_more n w v past before made r = record {
    key_words = λ i l. before i (omega arith) ∙ r.key_words i l;
    later_words = λ i p l. elim (cases_eq i n) [
      | inl e ↦ ap (word v) e ∙ made ∙ ap (next_word nk w) (sym e) ∙ rule i p (omega arith)
      | inr e ↦ before i (omega arith) ∙ r.later_words i p (omega arith) ∙ rule i p (omega arith)
    ];
  }
    where
      rule : (i : ℕ) → nk ≤ i → i ≤ n → xors (word w (i - nk)) (temp nk i (word w (i - 1))) ≡ xors (word v (i - nk)) (temp nk i (word v (i - 1)))
      rule i p l = ap₂ (λ a b. xors a (temp nk i b)) (sym (before (i - nk) (omega arith))) (sym (before (i - 1) (omega arith)))

  -- the next word has 4 bytes
  next_length : (w : List ℕ) (n : ℕ) → nk ≤ n → length w ≡ 4 * n → length (next_word nk w n) ≡ 4
  unfolding next_word
  next_length w n past long = xors_length (word w (n - nk)) (temp nk n (word w (n - 1))) ∙ word_length w (n - nk) (omega (arith, long))

  -- a key with n words more has nk + n words, and they are those of a schedule
  expanded_rules : length key ≡ 4 * nk → (n : ℕ) → (length (expanded_key nk key n) ≡ 4 * (nk + n)) × IsScheduleTo (nk + n) (expanded_key nk key n)
  unfolding expanded_key
  expanded_rules long zero = (omega (arith, long), record { key_words = λ i l. refl; later_words = λ i p l. absurd (omega arith) })
  expanded_rules long (suc n) =
      let w = expanded_key nk key n in
      let x = next_word nk w (nk + n) in
      let r = expanded_rules long n in
      let four = next_length w (nk + n) (omega arith) r.0 in
      let on : nk + n + 1 ≡ nk + suc n = omega arith in (
        length-append w x ∙ omega (arith, r.0, four),
        subst (λ (m : ℕ). IsScheduleTo m (w ++ x)) on
            (rules_more (nk + n) w (w ++ x) (omega arith) (λ i l. word_before w x (nk + n) i r.0 l) (word_behind w x (nk + n) r.0 four) r.1),
      )

  -- two schedules have the same words, by those that come before each
  one_by_rules : (n : ℕ) (w v : List ℕ) → IsScheduleTo n w → IsScheduleTo n v → (k i : ℕ) → i ≤ k → i < n → word w i ≡ word v i
  one_by_rules n w v a b zero i h l = a.key_words i (omega arith) ∙ sym (b.key_words i (omega arith))
  one_by_rules n w v a b (suc k) i h l = elim (cases_lt i nk) [
    | inl f ↦ a.key_words i f ∙ sym (b.key_words i f)
    | inr g ↦
        a.later_words i g l
        ∙ ap₂ (λ x y. xors x (temp nk i y)) (one_by_rules n w v a b k (i - nk) (omega arith) (omega arith))
        (one_by_rules n w v a b k (i - 1) (omega arith) (omega arith))
        ∙ sym (b.later_words i g l)
  ]

  -- a string as long as a schedule, with the words of one, is one
  pub schedule_from : (w : List ℕ) → length w ≡ 16 * (nk + 7) → IsScheduleTo (4 * (nk + 7)) w → IsSchedule nk key w
  schedule_from w long r = record { size = long; key_words = r.key_words; later_words = r.later_words }

  -- two schedules of one key are the same
  one_schedule : (w v : List ℕ) → IsSchedule nk key w → IsSchedule nk key v → w ≡ v
  one_schedule w v a b = same_words w v (4 * (nk + 7)) (omega (arith, a.size)) (omega (arith, b.size))
      (λ i l. one_by_rules (4 * (nk + 7)) w v (rules a) (rules b) i i (omega arith) l)
    where
      rules : {s : List ℕ} → IsSchedule nk key s → IsScheduleTo (4 * (nk + 7)) s
      rules c = record { key_words = c.key_words; later_words = c.later_words }

  -- the expansion of a key is a schedule of it, and there is no other
  pub has_one_schedule : length key ≡ 4 * nk → HasOneSchedule nk key
  unfolding key_expansion
  has_one_schedule long =
      let words : length key / 4 ≡ nk = omega arith in
      let all : nk + (3 * nk + 28) ≡ 4 * (nk + 7) = omega arith in
      let w = expanded_key nk key (3 * nk + 28) in
      let is : key_expansion key ≡ w = ap (λ k. expanded_key k key (3 * k + 28)) words in
      let r = expanded_rules long (3 * nk + 28) in
      let made = schedule_from w (omega (arith, r.0)) (subst (λ (n : ℕ). IsScheduleTo n w) all r.1) in
      record {
        is_schedule = subst (IsSchedule nk key) (sym is) made;
        only_one = λ v s. one_schedule v w s made ∙ sym is;
      }
