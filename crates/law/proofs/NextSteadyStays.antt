-- A publishing keeps what holds of seats, ended stays, the epochs of keys and links.
use Rattle.std.proofs.Common.{◌≡◌, ℕ, zero, suc, ◌+◌, ◌<◌, ◌≤◌, true, false, ◌⊎◌, List, refl, sym, ap, ◌∙◌, ap₂, subst, subst₂, inl, inr, arith}
use Rattle.std.proofs.lemmas.Bool.{cases_eq, true≢false}
use Rattle.tree.specs.declared.types.Code.{Code}
use Rattle.tree.specs.declared.types.Code.TheVariants.{Empty, Stays, Arrives, Departs, Swaps}
use Rattle.tree.specs.declared.types.Opener.{Opener}
use Rattle.tree.specs.declared.types.Opener.TheVariants.{Present, Former}
use Rattle.tree.specs.declared.types.Pair.{Pair}
use Rattle.tree.specs.Tree.{IsWithin, IsBeneath}
use Rattle.tree.specs.Rows.{code_at, is_change_code, is_occupied_after as seats_code, is_stay_code, is_departure_code, stands_within, is_changed, is_occupied}
use Rattle.tree.specs.Plans.{pair, IsKnownAt, IsLawfulPlan}
use Rattle.tree.proofs.Halvings.{beneath_greater, halved_low, within_self, within_trans, within_cases, beneath_within}
use Rattle.tree.proofs.Standing.{stands_from, changed_inner, occupied_leaf}
use Rattle.tree.proofs.LawfulPlans.{plan_content, plan_opener, plan_served}
use Rattle.keys.specs.declared.KeyName.{KeyName}
use Rattle.keys.specs.Names.{Keys, key_name}
use Rattle.file_rules.specs.Sealing.{opener_name}
use Rattle.cradles.specs.Draws.{is_arrival_code, is_emptying_code}
use Rattle.server_rules.specs.Laws.{IsRenewal}
use Rattle.cradles.specs.Cradles.{IsCradle}
use Rattle.server_rules.proofs.Renewals.{joins_is, joins_empties}
use Rattle.law.specs.Book.{Seat, Stay, Covers}
use Rattle.chains.proofs.Chains.{IsReachedByLinks, given, opened, followed_more}
use Rattle.law.proofs.Renewals.{ChangesAbove, renewed_node, renewed_leaf, emptied_leaf, untouched, above, made_past}
use Rattle.law.proofs.SteadyStays.{IsStayOf, leaf_at, IsLeafKeyName, IsSteadySeat, IsSteadyStay, IsRightLink, IsSteady}
use Rattle.server_rules.proofs.Rows.{cradled_leaf}
use Rattle.tree.proofs.Members.{In}

-- a seat after a publishing, by the code of its cradle in the row
pub data IsSeatAfter (epoch : ℕ) (seats : List Seat) (row : List Code) (t : Seat) : Type 0 where
  stays_on : In t seats → code_at row (leaf_at t) ≡ Stays → IsSeatAfter epoch seats row t
  arrived : IsCradle t.cradle → t.first ≡ epoch + 1 → is_arrival_code (code_at row (leaf_at t)) ≡ true → IsSeatAfter epoch seats row t

-- an ended stay after a publishing
pub data IsEndedAfter (epoch : ℕ) (seats : List Seat) (ended : List Stay) (row : List Code) (s : Stay) : Type 0 where
  departed : In s.seat seats → is_departure_code (code_at row (leaf_at s.seat)) ≡ true → s.last ≡ epoch → IsEndedAfter epoch seats ended row s
  ended_before : In s ended → IsEndedAfter epoch seats ended row s

-- a link that a pair of the plan gives
pub record IsLinkOfPlan (epoch : ℕ) (plan : List Pair) (former present : Keys) (m n : KeyName) : Type 0 where
  pub from : Pair
  pub is_from : In from plan
  pub is_opener : opener_name former present from.opener ≡ m
  pub is_content : key_name from.content epoch ≡ n

-- a publishing that begins the epoch after this one: seats, ended stays, keys and links before and after it
pub record IsChange (epoch : ℕ) (row : List Code) (plan : List Pair) (material : List ℕ) (former present : Keys)
    (seats seats′ : List Seat) (ended ended′ : List Stay) (link link′ : KeyName → KeyName → Type 0) : Type 0 where
  pub lawful : IsLawfulPlan row plan
  pub root : is_changed row 1 ≡ true
  pub renewal : IsRenewal (epoch + 1) row material former present
  pub seats_are : (t : Seat) → In t seats′ → IsSeatAfter epoch seats row t
  pub ended_are : (s : Stay) → In s ended′ → IsEndedAfter epoch seats ended row s
  pub links_are : (m n : KeyName) → link′ m n → link m n ⊎ IsLinkOfPlan (epoch + 1) plan former present m n
  pub links_kept : (m n : KeyName) → link m n → link′ m n
  pub links_new : (p : Pair) → In p plan → link′ (opener_name former present p.opener) (key_name p.content (epoch + 1))

-- Codes apart.

-- who departs moves
departs_moves : (c : Code) → is_departure_code c ≡ true → is_change_code c ≡ false → ⊥
departs_moves Empty d m = absurd (true≢false (sym d))
departs_moves Stays d m = absurd (true≢false (sym d))
departs_moves Arrives d m = absurd (true≢false (sym d))
departs_moves Departs d m = absurd (true≢false m)
departs_moves Swaps d m = absurd (true≢false m)

-- who arrives does not stay
joins_stays : (c : Code) → is_arrival_code c ≡ true → c ≡ Stays → ⊥
joins_stays c j e = true≢false (sym j ∙ ap is_arrival_code e)

module _ (epoch : ℕ) (row : List Code) (plan : List Pair) (material : List ℕ) (former present : Keys)
    (seats seats′ : List Seat) (ended ended′ : List Stay) (link link′ : KeyName → KeyName → Type 0)
    (old : IsSteady epoch seats ended (λ n. (former n).made) link)
    (new : IsChange epoch row plan material former present seats seats′ ended ended′ link link′) where
  -- a stay after the publishing
  abbrev IsStayAfter : Stay → Type 0
  IsStayAfter = IsStayOf (epoch + 1) seats′ ended′

  -- what the publishing makes of a node above a leaf
  abbrev ChangesAt : ℕ → ℕ → Type 0
  ChangesAt n u = ChangesAbove (epoch + 1) row former present n u

  -- no key was made after the new epoch
  past : (n : ℕ) → (present n).made ≤ epoch + 1
  past = made_past (epoch + 1) row material former present new.renewal (λ n. omega (arith, old.made_past n))

  -- what the publishing makes of any node at or above the leaf of a cradle
  at : (n : ℕ) → 0 < n → (t : Seat) → IsCradle t.cradle → IsWithin (leaf_at t) n → ChangesAt n (leaf_at t)
  at n o t c w = above (epoch + 1) row material former present new.renewal n (leaf_at t) (cradled_leaf t.cradle c) o w

  -- a stay that has ended by now covers no present key's epoch
  departed_not : (n : ℕ) → 0 < n → (s : Stay) → In s.seat seats → is_departure_code (code_at row (leaf_at s.seat)) ≡ true → s.last ≡ epoch →
      IsWithin (leaf_at s.seat) n → Covers s (present n).made → ⊥
  departed_not n o s i d l w c = let ok = old.seats_are s.seat i in
      elim (at n o s.seat ok.cradled w) [
        | renewed_node q h ↦ omega (arith, q, c.1, l)
        | renewed_leaf q e h ↦ omega (arith, q, c.1, l)
        | emptied_leaf q h ↦ omega (arith, q, c.0, ok.began.0)
        | untouched q h ↦ departs_moves (code_at row (leaf_at s.seat)) d h
      ]

  -- a stay that had ended before covers no present key's epoch either
  ended_not : (n : ℕ) → 0 < n → (s : Stay) → In s ended → IsWithin (leaf_at s.seat) n → Covers s (present n).made → ⊥
  ended_not n o s i w c = let ok = old.ended_are s i in
      elim (at n o s.seat ok.cradled w) [
        | renewed_node q h ↦ omega (arith, q, c.1, ok.over)
        | renewed_leaf q e h ↦ omega (arith, q, c.1, ok.over)
        | emptied_leaf q h ↦ omega (arith, q, c.0, ok.began.0)
        | untouched q h ↦ omega (arith, old.holders_last n o s (inr i) w (omega (arith, q, c.0), omega (arith, q, c.1)), ok.over)
      ]

  -- a stay that may hold a node's present key lasts into the new epoch
  holders_last : (n : ℕ) → 0 < n → (s : Stay) → IsStayAfter s → IsWithin (leaf_at s.seat) n → Covers s (present n).made → s.last ≡ epoch + 1
  holders_last n o s (inl i) w c = i.1
  holders_last n o s (inr h) w c = elim (new.ended_are s h) [
    | departed i d l ↦ absurd (departed_not n o s i d l w c)
    | ended_before i ↦ absurd (ended_not n o s i w c)
  ]

  -- what a link gave before, it still gives
  right_still : (m n : KeyName) → IsRightLink epoch seats ended m n → IsRightLink (epoch + 1) seats′ ended′ m n
  right_still m n r = record {
    content_node = r.content_node;
    opener_past = omega (arith, r.opener_past);
    content_past = omega (arith, r.content_past);
    right = still;
  }
    where
      still : (s : Stay) → IsStayAfter s → IsWithin (leaf_at s.seat) m.node → Covers s m.epoch → IsWithin (leaf_at s.seat) n.node × Covers s n.epoch
      still s (inl i) w c = elim (new.seats_are s.seat i.0) [
        | stays_on h e ↦
            let before = r.right (record { seat = s.seat; last = epoch }) (inl (h, refl)) w (c.0, r.opener_past) in
            (before.0, (before.1.0, omega (arith, i.1, r.content_past)))
        | arrived k first j ↦ absurd (omega (arith, r.opener_past, c.0, first))
      ]
      still s (inr h) w c = elim (new.ended_are s h) [
        | departed i d l ↦ r.right s (inl (i, l)) w c
        | ended_before i ↦ r.right s (inr i) w c
      ]

  -- a stay that covers the epoch of a former key which may open lasts on
  lasts_on : (n : ℕ) → 0 < n → stands_within is_departure_code row n ≡ false →
      (s : Stay) → IsStayAfter s → IsWithin (leaf_at s.seat) n → Covers s (former n).made → s.last ≡ epoch + 1
  lasts_on n o e s (inl i) w c = i.1
  lasts_on n o e s (inr h) w c = elim (new.ended_are s h) [
    | departed i d l ↦
        let leaf = cradled_leaf s.seat.cradle (old.seats_are s.seat i).cradled in
        absurd (true≢false (sym (stands_from is_departure_code row n (leaf_at s.seat) o leaf w d) ∙ e))
    | ended_before i ↦ absurd (omega (arith, old.holders_last n o s (inr i) w c, (old.ended_are s i).over))
  ]

  -- whoever may hold a pair's opener may hold its content's new key
  planned_right : (o : Opener) (n : ℕ) → In (pair o n) plan → IsRightLink (epoch + 1) seats′ ended′ (opener_name former present o) (key_name n (epoch + 1))
  planned_right (Present o) n i = record {
    content_node = inner;
    opener_past = past o;
    content_past = omega arith;
    right = right;
  }
    where
      beneath : IsBeneath o n
      beneath = (plan_opener new.lawful (pair (Present o) n) i).1

      inner : 0 < n
      inner = (changed_inner row n (plan_content new.lawful (pair (Present o) n) i)).0

      right : (s : Stay) → IsStayAfter s → IsWithin (leaf_at s.seat) o → Covers s (present o).made → IsWithin (leaf_at s.seat) n × Covers s (epoch + 1)
      right s a w c =
          let last = holders_last o (omega (arith, inner, beneath_greater o n inner beneath)) s a w c in
          (within_trans (leaf_at s.seat) o n w (beneath_within o n beneath), (omega (arith, c.0, past o), omega (arith, last)))
  planned_right (Former o) n i = record {
    content_node = (changed_inner row n (plan_content new.lawful (pair (Former o) n) i)).0;
    opener_past = omega (arith, old.made_past o);
    content_past = omega arith;
    right = λ s a w c. right s a (subst (λ (m : ℕ). IsWithin (leaf_at s.seat) m) may.0 w) (subst (λ (m : ℕ). Covers s (former m).made) may.0 c);
  }
    where
      may : (o ≡ n) × ((stands_within is_stay_code row n ≡ true) × (stands_within is_departure_code row n ≡ false))
      may = plan_opener new.lawful (pair (Former o) n) i

      right : (s : Stay) → IsStayAfter s → IsWithin (leaf_at s.seat) n → Covers s (former n).made → IsWithin (leaf_at s.seat) n × Covers s (epoch + 1)
      right s a w c =
          let last = lasts_on n (changed_inner row n (plan_content new.lawful (pair (Former o) n) i)).0 may.1.1 s a w c in
          (w, (omega (arith, c.0, old.made_past n), omega (arith, last)))

  -- every link gives its content only to who may hold it, also after the publishing
  links_right : (m n : KeyName) → link′ m n → IsRightLink (epoch + 1) seats′ ended′ m n
  links_right m n l = elim (new.links_are m n l) [
    | inl k ↦ right_still m n (old.links_right m n k)
    | inr p ↦ subst₂ (λ (a b : KeyName). IsRightLink (epoch + 1) seats′ ended′ a b) p.is_opener p.is_content
        (planned_right p.from.opener p.from.content p.is_from)
  ]

  -- Who is seated reaches the present keys above its leaf.

  -- the seat reaches the node's present key
  abbrev Reaches : Seat → ℕ → Type 0
  Reaches t n = IsReachedByLinks (IsLeafKeyName t) link′ (key_name n (present n).made)

  -- what was reached before is still reached
  as_before : (t : Seat) {n : KeyName} → IsReachedByLinks (IsLeafKeyName t) link n → IsReachedByLinks (IsLeafKeyName t) link′ n
  as_before t f = followed_more (λ n s. s) new.links_kept f

  -- the new key of a node, from the keys beneath it
  by_pair : (t : Seat) (n : ℕ) → IsSeatAfter epoch seats row t → 0 < n → IsWithin (leaf_at t) n → (present n).made ≡ epoch + 1 →
      ((m : ℕ) → n < m → IsWithin (leaf_at t) m → Reaches t m) →
      (o : Opener) → In (pair o n) plan → IsKnownAt row n (leaf_at t) o → Reaches t n
  by_pair t n s o w q beneath (Present m) i (inl e) =
      let b : IsBeneath m n = (plan_opener new.lawful (pair (Present m) n) i).1 in
      let self : IsWithin (leaf_at t) m = (0, sym e) in
      rw q (opened (new.links_new (pair (Present m) n) i) (beneath m (beneath_greater m n o b) self))
  by_pair t n s o w q beneath (Present m) i (inr (b, u)) =
      rw q (opened (new.links_new (pair (Present m) n) i) (beneath m (beneath_greater m n o b) (beneath_within (leaf_at t) m u)))
  by_pair t n s o w q beneath (Former m) i (e, c) = elim s [
    | stays_on h k ↦ rw q (opened (new.links_new (pair (Former m) n) i) (rw e (as_before t (old.path t h n o w))))
    | arrived k first j ↦ absurd (joins_stays (code_at row (leaf_at t)) j c)
  ]

  -- a seat after the publishing is in a cradle
  seat_cradled : (t : Seat) → IsSeatAfter epoch seats row t → IsCradle t.cradle
  seat_cradled t (stays_on i e) = (old.seats_are t i).cradled
  seat_cradled t (arrived c first j) = c

  -- the leaf of a seat counts as occupied in the row
  seat_occupied : (t : Seat) → IsSeatAfter epoch seats row t → is_occupied row (leaf_at t) ≡ true
  seat_occupied t s = occupied_leaf row (leaf_at t) (cradled_leaf t.cradle (seat_cradled t s)) ∙ sits s
    where
      sits : IsSeatAfter epoch seats row t → seats_code (code_at row (leaf_at t)) ≡ true
      sits (stays_on i e) = ap seats_code e
      sits (arrived c first j) = (joins_is (code_at row (leaf_at t)) j).0

  -- the present key of a node is reached, if those of the nodes beneath it are
  up : (t : Seat) (n : ℕ) → IsSeatAfter epoch seats row t → 0 < n → IsWithin (leaf_at t) n →
      ((m : ℕ) → n < m → IsWithin (leaf_at t) m → Reaches t m) → Reaches t n
  up t n s o w beneath = elim (at n o t (seat_cradled t s) w) [
    | renewed_node q h ↦ elim (within_cases (leaf_at t) n w) [
      | inl e ↦ absurd (omega (arith, (changed_inner row n h).1, (cradled_leaf t.cradle (seat_cradled t s)).0))
      | inr b ↦
          let served = plan_served new.lawful n (leaf_at t) h (cradled_leaf t.cradle (seat_cradled t s)) b (seat_occupied t s) in
          by_pair t n s o w q beneath served.0 served.1.0 served.1.1
    ]
    | renewed_leaf q e h ↦ at_leaf s q e h
    | emptied_leaf q h ↦ absurd (not_emptied s h)
    | untouched q h ↦ not_moved s q h
  ]
    where
      at_leaf : IsSeatAfter epoch seats row t → (present n).made ≡ epoch + 1 → n ≡ leaf_at t → is_arrival_code (code_at row (leaf_at t)) ≡ true → Reaches t n
      at_leaf (stays_on i e) q same h = absurd (joins_stays (code_at row (leaf_at t)) h e)
      at_leaf (arrived c first j) q same h = given (ap₂ key_name (sym same) (first ∙ sym q))

      not_emptied : IsSeatAfter epoch seats row t → is_emptying_code (code_at row (leaf_at t)) ≡ true → ⊥
      not_emptied (stays_on i e) h = true≢false (sym h ∙ ap is_emptying_code e)
      not_emptied (arrived c first j) h = joins_empties (code_at row (leaf_at t)) j h

      not_moved : IsSeatAfter epoch seats row t → (present n).made ≡ (former n).made → is_change_code (code_at row (leaf_at t)) ≡ false → Reaches t n
      not_moved (stays_on i e) q h = rw q (as_before t (old.path t i n o w))
      not_moved (arrived c first j) q h = absurd (true≢false (sym (joins_is (code_at row (leaf_at t)) j).1 ∙ h))

  -- by falling numbers, from the leaf on
  up_from : (t : Seat) → IsSeatAfter epoch seats row t → (k n : ℕ) → 256 ≤ n + k → 0 < n → IsWithin (leaf_at t) n → Reaches t n
  up_from t s zero n h o w = absurd (omega (arith, halved_low w.0 (leaf_at t), w.1, (cradled_leaf t.cradle (seat_cradled t s)).1))
  up_from t s (suc k) n h o w = up t n s o w (λ m l v. up_from t s k m (omega arith) (omega arith) v)

  -- who is seated reaches the present key of its leaf, and of each node above it
  path : (t : Seat) → In t seats′ → (n : ℕ) → 0 < n → IsWithin (leaf_at t) n → Reaches t n
  path t i n o w = up_from t (new.seats_are t i) 256 n (omega arith) o w

  -- a seat began by the new epoch, and its leaf's key was made when it began
  seats_are : (t : Seat) → IsSeatAfter epoch seats row t → IsSteadySeat (epoch + 1) (λ n. (present n).made) t
  seats_are t (stays_on i e) = record { cradled = ok.cradled; began = (ok.began.0, omega (arith, ok.began.1)); since = since }
    where
      ok : IsSteadySeat epoch (λ n. (former n).made) t
      ok = old.seats_are t i

      since : (present (leaf_at t)).made ≡ t.first
      since = elim (at (leaf_at t) (omega arith) t ok.cradled (within_self (leaf_at t))) [
        | renewed_node q h ↦ absurd (omega (arith, (changed_inner row (leaf_at t) h).1, (cradled_leaf t.cradle ok.cradled).0))
        | renewed_leaf q r h ↦ absurd (joins_stays (code_at row (leaf_at t)) h e)
        | emptied_leaf q h ↦ absurd (true≢false (sym h ∙ ap is_emptying_code e))
        | untouched q h ↦ q ∙ ok.since
      ]
  seats_are t (arrived c first j) = record {
    cradled = c;
    began = (omega arith, omega arith);
    since = new.renewal.arrival_new (leaf_at t) (cradled_leaf t.cradle c) j ∙ sym first;
  }

  -- who is seated reaches the new group key
  newest : (t : Seat) → In t seats′ → IsReachedByLinks (IsLeafKeyName t) link′ (key_name 1 (epoch + 1))
  newest t i =
      let c = seat_cradled t (new.seats_are t i) in
      let w : IsWithin (leaf_at t) 1 = (7, omega arith) in
      subst (λ (e : ℕ). IsReachedByLinks (IsLeafKeyName t) link′ (key_name 1 e)) (new.renewal.changed_new 1 new.root) (path t i 1 (omega arith) w)

  -- each stay reaches the group keys of its epochs
  history : (s : Stay) → IsStayAfter s → (e : ℕ) → Covers s e → IsReachedByLinks (IsLeafKeyName s.seat) link′ (key_name 1 e)
  history s (inl i) e c = elim (cases_eq e (epoch + 1)) [
    | inl q ↦ rw q (newest s.seat i.0)
    | inr x ↦ elim (new.seats_are s.seat i.0) [
      | stays_on h k ↦ as_before s.seat (old.history (record { seat = s.seat; last = epoch }) (inl (h, refl)) e (c.0, omega (arith, i.1, c.1)))
      | arrived k first j ↦ absurd (omega (arith, i.1, c.0, c.1))
    ]
  ]
  history s (inr h) e c = elim (new.ended_are s h) [
    | departed i d l ↦ as_before s.seat (old.history s (inl (i, l)) e c)
    | ended_before i ↦ as_before s.seat (old.history s (inr i) e c)
  ]

  -- a stay that has ended is over by the new epoch
  ended_are : (s : Stay) → IsEndedAfter epoch seats ended row s → IsSteadyStay (epoch + 1) s
  ended_are s (departed i d l) = let ok = old.seats_are s.seat i in
      record { cradled = ok.cradled; began = (ok.began.0, omega (arith, ok.began.1)); over = omega arith }
  ended_are s (ended_before i) = let ok = old.ended_are s i in record { cradled = ok.cradled; began = ok.began; over = omega (arith, ok.over) }

  -- all that holds of seats, ended stays, keys and links holds after the publishing
  pub steady_next : IsSteady (epoch + 1) seats′ ended′ (λ n. (present n).made) link′
  steady_next = record {
    seats_are = λ t i. seats_are t (new.seats_are t i);
    ended_are = λ s i. ended_are s (new.ended_are s i);
    made_past = past;
    holders_last = holders_last;
    links_right = links_right;
    path = path;
    history = history;
  }
