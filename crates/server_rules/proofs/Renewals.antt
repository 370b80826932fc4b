-- What a publishing does to the key of each node.
use Rattle.std.proofs.Common.{◌≡◌, ℕ, zero, suc, ◌+◌, ◌*◌, ◌<◌, ◌≤◌, true, ◌⊎◌, List, [], ◌∷◌, length, get_or, set, take, drop, sym, refl, ap, ◌∙◌, subst, inl}
use Rattle.std.proofs.Common.{inr, arith, lit<}
use Rattle.std.specs.List.{range_with_len}
use Rattle.std.proofs.lemmas.Bool.{cases_eq, cases_lt, both_ways, false≢true}
use Rattle.std.proofs.lemmas.List.{length-set, length-drop, length-replicate, get_or-set_same, get_or-set_other, get_or_past, drop-drop}
use Rattle.byte_strings.specs.Strings.{IsBytes, IsSized, part}
use Rattle.byte_strings.proofs.Parts.{take_sized, drop_bytes, replicate_bytes}
use Rattle.keys.specs.declared.NodeKey.{NodeKey}
use Rattle.keys.specs.Names.{unmade_key, keys_in}
use Rattle.tree.specs.declared.types.Code.{Code}
use Rattle.tree.specs.declared.types.Code.TheVariants.{Empty, Stays, Arrives, Departs, Swaps}
use Rattle.tree.specs.Tree.{IsLeaf, tree_leaves, inner_nodes, countdown}
use Rattle.tree.specs.Rows.{code_at, is_changed, changed_nodes, is_occupied_after, is_change_code}
use Rattle.tree.proofs.Members.{In, in_append, in_left, in_right, in_kept, kept_in, in_counting, counting_in}
use Rattle.tree.proofs.Standing.{changed_inner, changed_in, in_changed}
use Rattle.cradles.specs.Draws.{is_arrival_code, is_emptying_code, arrival_leaves, emptied_leaves, receivers, drawn_size}
use Rattle.cradles.specs.Draws.{keys_without, drawn_key, keys_with_draws}
use Rattle.cradles.specs.Draws.{keys_after_change}
use Rattle.server_rules.specs.Laws.{IsRenewal}
use Rattle.server_rules.proofs.Distinct.{HasNoRepeats, distinct_append, distinct_kept, distinct_counting, distinct_falling}

-- the key of a node that has none is 32 bytes
pub unmade_sized : IsSized 32 unmade_key.key
unmade_sized = (length-replicate {A = ℕ} 32 0, replicate_bytes 32 0 (lit< tt))

-- the epoch in which a key was made, as a function
abbrev pub epoch_of_key : NodeKey → ℕ
epoch_of_key k = k.made

-- the 32 bytes of a key, as a function
abbrev bytes_of_key : NodeKey → List ℕ
bytes_of_key k = k.key

-- the table has the key at its place, and elsewhere what it had
held_set : (P : NodeKey → Type 0) (t : List NodeKey) (u n : ℕ) (k : NodeKey) → (n ≡ u → n < length t → P k) → P (keys_in t n) → P (keys_in (set t u k) n)
held_set P t u n k new old = elim (cases_eq n u) [
  | inl e ↦ elim (cases_lt n (length t)) [
    | inl l ↦ subst P (sym (ap (λ i. get_or (set t i k) n unmade_key) (sym e) ∙ get_or-set_same t n k unmade_key l)) (new e l)
    | inr g ↦ subst P (get_or_past t n unmade_key g ∙ sym (get_or_past (set t u k) n unmade_key (omega (arith, length-set t u k)))) old
  ]
  | inr x ↦ subst P (sym (get_or-set_other t u n k unmade_key x)) old
]

-- Nodes that are emptied.

-- the table stays as long
emptied_length : (us : List ℕ) (t : List NodeKey) → length (keys_without us t) ≡ length t
emptied_length [] t = refl
emptied_length (u ∷ us) t = emptied_length us (set t u unmade_key) ∙ length-set t u unmade_key

-- what holds of a key that was never made, and of the node's, holds of what the node has afterwards
emptied_all : (P : NodeKey → Type 0) (us : List ℕ) (t : List NodeKey) (n : ℕ) → P unmade_key → P (keys_in t n) → P (keys_in (keys_without us t) n)
emptied_all P [] t n none old = old
emptied_all P (u ∷ us) t n none old = emptied_all P us (set t u unmade_key) n none (held_set P t u n unmade_key (λ e l. none) old)

-- a node that is not among them keeps its key
emptied_others : (us : List ℕ) (t : List NodeKey) (n : ℕ) → (In n us → ⊥) → keys_in (keys_without us t) n ≡ keys_in t n
emptied_others [] t n out = refl
emptied_others (u ∷ us) t n out = emptied_others us (set t u unmade_key) n (λ i. out (inr i)) ∙ get_or-set_other t u n unmade_key unmade_key (λ e. out (inl e))

-- a node that is among them has no key from then on
emptied_here : (us : List ℕ) (t : List NodeKey) (n : ℕ) → In n us → n < length t → keys_in (keys_without us t) n ≡ unmade_key
emptied_here [] t n h l = absurd h
emptied_here (u ∷ us) t n (inl e) l =
    emptied_all (λ k. k ≡ unmade_key) us (set t u unmade_key) n refl
    (ap (λ i. get_or (set t i unmade_key) n unmade_key) (sym e) ∙ get_or-set_same t n unmade_key unmade_key l)
emptied_here (u ∷ us) t n (inr h) l = emptied_here us (set t u unmade_key) n h (omega (arith, length-set t u unmade_key))

-- Nodes that are dealt keys.

-- the table stays as long
dealt_length : (epoch : ℕ) (ns m : List ℕ) (t : List NodeKey) → length (keys_with_draws epoch ns m t) ≡ length t
dealt_length epoch [] m t = refl
dealt_length epoch (n ∷ ns) m t = dealt_length epoch ns (drop 32 m) (set t n (drawn_key epoch m)) ∙ length-set t n (drawn_key epoch m)

-- a node that is not among them keeps its key
dealt_others : (epoch : ℕ) (ns m : List ℕ) (t : List NodeKey) (n : ℕ) → (In n ns → ⊥) → keys_in (keys_with_draws epoch ns m t) n ≡ keys_in t n
dealt_others epoch [] m t n out = refl
dealt_others epoch (u ∷ ns) m t n out =
    dealt_others epoch ns (drop 32 m) (set t u (drawn_key epoch m)) n (λ i. out (inr i))
    ∙ get_or-set_other t u n (drawn_key epoch m) unmade_key (λ e. out (inl e))

-- what holds of a key made in the epoch, and of the node's, holds of what the node has afterwards
dealt_all : (P : NodeKey → Type 0) (epoch : ℕ) (ns m : List ℕ) (t : List NodeKey) (n : ℕ) → ((m : List ℕ) → P (drawn_key epoch m)) → P (keys_in t n) →
    P (keys_in (keys_with_draws epoch ns m t) n)
dealt_all P epoch [] m t n new old = old
dealt_all P epoch (u ∷ ns) m t n new old =
    dealt_all P epoch ns (drop 32 m) (set t u (drawn_key epoch m)) n new (held_set P t u n (drawn_key epoch m) (λ e l. new m) old)

-- a node that is among them has a key of that epoch
dealt_made : (epoch : ℕ) (ns m : List ℕ) (t : List NodeKey) (n : ℕ) → In n ns → n < length t → (keys_in (keys_with_draws epoch ns m t) n).made ≡ epoch
dealt_made epoch [] m t n h l = absurd h
dealt_made epoch (u ∷ ns) m t n (inl e) l =
    dealt_all (λ k. k.made ≡ epoch) epoch ns (drop 32 m) (set t u (drawn_key epoch m)) n (λ m. refl)
    (ap (λ i. epoch_of_key (get_or (set t i (drawn_key epoch m)) n unmade_key)) (sym e)
    ∙ ap epoch_of_key (get_or-set_same t n (drawn_key epoch m) unmade_key l))
dealt_made epoch (u ∷ ns) m t n (inr h) l =
    dealt_made epoch ns (drop 32 m) (set t u (drawn_key epoch m)) n h (omega (arith, length-set t u (drawn_key epoch m)))

-- the node of index i has the i-th 32 bytes
dealt_keys : (epoch : ℕ) (ns m : List ℕ) (t : List NodeKey) → HasNoRepeats ns → ((n : ℕ) → In n ns → n < length t) → (i : ℕ) → i < length ns →
    (keys_in (keys_with_draws epoch ns m t) (get_or ns i 0)).key ≡ part 32 (32 * i) m
dealt_keys epoch [] m t d low i l = absurd (omega arith)
dealt_keys epoch (n ∷ ns) m t d low zero l =
    ap bytes_of_key (dealt_others epoch ns (drop 32 m) (set t n (drawn_key epoch m)) n d.0
    ∙ get_or-set_same t n (drawn_key epoch m) unmade_key (low n (inl refl)))
dealt_keys epoch (n ∷ ns) m t d low (suc i) l =
    let e : 32 + 32 * i ≡ 32 * suc i = omega arith in
    dealt_keys epoch ns (drop 32 m) (set t n (drawn_key epoch m)) d.1 (λ k h. omega (arith, low k (inr h), length-set t n (drawn_key epoch m))) i (omega arith)
    ∙ ap (take 32) (drop-drop (32 * i) 32 m) ∙ ap (λ j. part 32 j m) e

-- with 32 bytes for each, every key has 32 bytes
dealt_sized : (epoch : ℕ) (ns m : List ℕ) (t : List NodeKey) (n : ℕ) → IsBytes m → 32 * length ns ≤ length m → IsSized 32 (keys_in t n).key →
    IsSized 32 (keys_in (keys_with_draws epoch ns m t) n).key
dealt_sized epoch [] m t n b l s = s
dealt_sized epoch (u ∷ ns) m t n b l s =
    dealt_sized epoch ns (drop 32 m) (set t u (drawn_key epoch m)) n (drop_bytes 32 m b) (omega (arith, length-drop 32 m))
    (held_set (λ k. IsSized 32 k.key) t u n (drawn_key epoch m) (λ e h. take_sized 32 (length m) m (omega arith) (refl, b)) s)

-- Who receives a key, and whose leaf is emptied.

-- nobody arrives where the cradle is empty from then on
pub joins_empties : (k : Code) → is_arrival_code k ≡ true → is_emptying_code k ≡ true → ⊥
joins_empties Empty j e = false≢true j
joins_empties Stays j e = false≢true j
joins_empties Arrives j e = false≢true e
joins_empties Departs j e = false≢true j
joins_empties Swaps j e = false≢true e

-- who arrives is there after the change, and moves
pub joins_is : (k : Code) → is_arrival_code k ≡ true → (is_occupied_after k ≡ true) × (is_change_code k ≡ true)
joins_is Empty j = absurd (false≢true j)
joins_is Stays j = absurd (false≢true j)
joins_is Arrives j = (refl, refl)
joins_is Departs j = absurd (false≢true j)
joins_is Swaps j = (refl, refl)

module _ (row : List Code) where
  -- the leaf of who arrives is in the list of arrivals
  arrival_in : (u : ℕ) → IsLeaf u → is_arrival_code (code_at row u) ≡ true → In u (arrival_leaves row)
  unfolding arrival_leaves tree_leaves
  arrival_in u l e = kept_in (λ v. is_arrival_code (code_at row v)) (range_with_len 128 128) u (counting_in 128 128 u l.0 l.1) e

  -- in that list are only leaves of who arrives
  in_arrivals : (u : ℕ) → In u (arrival_leaves row) → IsLeaf u × (is_arrival_code (code_at row u) ≡ true)
  unfolding arrival_leaves tree_leaves
  in_arrivals u h = let r = in_kept (λ v. is_arrival_code (code_at row v)) (range_with_len 128 128) u h in (in_counting 128 128 u r.0, r.1)

  -- a leaf that is emptied is in the list of those
  emptied_in : (u : ℕ) → IsLeaf u → is_emptying_code (code_at row u) ≡ true → In u (emptied_leaves row)
  unfolding emptied_leaves tree_leaves
  emptied_in u l e = kept_in (λ v. is_emptying_code (code_at row v)) (range_with_len 128 128) u (counting_in 128 128 u l.0 l.1) e

  -- in that list are only leaves that are emptied
  in_emptied : (u : ℕ) → In u (emptied_leaves row) → IsLeaf u × (is_emptying_code (code_at row u) ≡ true)
  unfolding emptied_leaves tree_leaves
  in_emptied u h = let r = in_kept (λ v. is_emptying_code (code_at row v)) (range_with_len 128 128) u h in (in_counting 128 128 u r.0, r.1)

  -- a node that is changed receives a key
  changed_receives : (n : ℕ) → is_changed row n ≡ true → In n (receivers row)
  changed_receives n e = in_right (arrival_leaves row) (changed_nodes row) n (changed_in row n e)

  -- the leaf of who arrives receives a key
  arrival_receives : (u : ℕ) → IsLeaf u → is_arrival_code (code_at row u) ≡ true → In u (receivers row)
  arrival_receives u l e = in_left (arrival_leaves row) (changed_nodes row) u (arrival_in u l e)

  -- only leaves of who arrives and changed nodes receive a key
  receives : (n : ℕ) → In n (receivers row) → (IsLeaf n × (is_arrival_code (code_at row n) ≡ true)) ⊎ (is_changed row n ≡ true)
  receives n h = elim (in_append (arrival_leaves row) (changed_nodes row) n h) [
    | inl i ↦ inl (in_arrivals n i)
    | inr j ↦ inr (in_changed row n j)
  ]

  -- who receives a key is a node of the tree
  receiver_low : (n : ℕ) → In n (receivers row) → n < 256
  receiver_low n h = elim (receives n h) [
    | inl a ↦ a.0.1
    | inr c ↦ omega (arith, changed_inner row n c)
  ]

  -- no leaf is twice in the list of arrivals
  distinct_arrivals : HasNoRepeats (arrival_leaves row)
  unfolding arrival_leaves tree_leaves
  distinct_arrivals = distinct_kept (λ u. is_arrival_code (code_at row u)) (range_with_len 128 128) (distinct_counting 128 128)

  -- no node is twice in the list of those that are changed
  distinct_changed : HasNoRepeats (changed_nodes row)
  unfolding changed_nodes inner_nodes
  distinct_changed = distinct_kept (is_changed row) (countdown 127) (distinct_falling 127)

  -- nobody receives two keys
  distinct_receivers : HasNoRepeats (receivers row)
  distinct_receivers = distinct_append (arrival_leaves row) (changed_nodes row) distinct_arrivals distinct_changed
      (λ n i j. omega (arith, (in_arrivals n i).0, changed_inner row n (in_changed row n j)))

  module _ (epoch : ℕ) (m : List ℕ) (t : List NodeKey) where
    -- the keys with those of the emptied leaves cleared
    abbrev keys_left : List NodeKey
    keys_left = keys_without (emptied_leaves row) t

    -- the table stays as long
    pub renewed_length : length (keys_after_change epoch row m t) ≡ length t
    renewed_length = dealt_length epoch (receivers row) m keys_left ∙ emptied_length (emptied_leaves row) t

    -- what holds of a key that was never made, of one of the epoch, and of the node's, holds of what the node has afterwards
    pub renewed_all : (P : NodeKey → Type 0) (n : ℕ) → P unmade_key → ((k : List ℕ) → P (drawn_key epoch k)) → P (keys_in t n) →
        P (keys_in (keys_after_change epoch row m t) n)
    renewed_all P n none new old = dealt_all P epoch (receivers row) m keys_left n new (emptied_all P (emptied_leaves row) t n none old)

    -- a node that receives no key and is not emptied keeps its key
    renewed_others : (n : ℕ) → (In n (receivers row) → ⊥) → (In n (emptied_leaves row) → ⊥) → keys_in (keys_after_change epoch row m t) n ≡ keys_in t n
    renewed_others n r e = dealt_others epoch (receivers row) m keys_left n r ∙ emptied_others (emptied_leaves row) t n e

    -- a leaf that is emptied has no key from then on
    renewed_none : (u : ℕ) → u < length t → (In u (receivers row) → ⊥) → In u (emptied_leaves row) → keys_in (keys_after_change epoch row m t) u ≡ unmade_key
    renewed_none u l r h = dealt_others epoch (receivers row) m keys_left u r ∙ emptied_here (emptied_leaves row) t u h l

    -- a node that receives a key has one of the new epoch
    renewed_made : (n : ℕ) → n < length t → In n (receivers row) → (keys_in (keys_after_change epoch row m t) n).made ≡ epoch
    renewed_made n l h = dealt_made epoch (receivers row) m keys_left n h (omega (arith, emptied_length (emptied_leaves row) t))

    -- with material enough, every key has 32 bytes
    pub renewed_sized : IsBytes m → drawn_size row ≤ length m →
        ((n : ℕ) → IsSized 32 (keys_in t n).key) → (n : ℕ) → IsSized 32 (keys_in (keys_after_change epoch row m t) n).key
    renewed_sized b l s n =
        dealt_sized epoch (receivers row) m keys_left n b l (emptied_all (λ k. IsSized 32 k.key) (emptied_leaves row) t n unmade_sized (s n))

    -- the keys after the change are those that the rule of renewals asks for
    pub renewal : length t ≡ 256 → IsRenewal epoch row m (keys_in t) (keys_in (keys_after_change epoch row m t))
    renewal size = record {
      changed_new = λ n c. renewed_made n (omega (arith, changed_inner row n c)) (changed_receives n c);
      arrival_new = λ u l e. renewed_made u (omega (arith, l)) (arrival_receives u l e);
      emptied_none = λ u l e. renewed_none u (omega (arith, l)) (λ h. elim (receives u h) [
        | inl a ↦ joins_empties (code_at row u) a.1 e
        | inr c ↦ omega (arith, changed_inner row u c, l)
      ]) (emptied_in u l e);
      others_kept = λ n c f. renewed_others n
          (λ h. elim (receives n h) [ inl a ↦ both_ways (is_arrival_code (code_at row n)) (f a.0).0 a.1 | inr e ↦ both_ways (is_changed row n) c e ])
          (λ h. let r = in_emptied n h in both_ways (is_emptying_code (code_at row n)) (f r.0).1 r.1);
      drawn_in_order = dealt_keys epoch (receivers row) m keys_left distinct_receivers
          (λ n h. omega (arith, receiver_low n h, emptied_length (emptied_leaves row) t));
    }
