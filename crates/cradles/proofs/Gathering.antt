-- Gathering what passes of a list, from its front on.
use Rattle.std.proofs.Common.{◌≡◌, ℕ, suc, ◌+◌, ◌-◌, ◌<◌, ◌≤◌, Bool, true, false, cond, List, [], ◌∷◌, ◌++◌, filter, length, refl, sym, ap, subst, ◌∙◌, arith}
use Rattle.std.specs.List.{range_with_len}
use Rattle.std.proofs.lemmas.List.{length-append, append_assoc, append-nil}
use Rattle.tree.specs.Tree.{tree_leaves, inner_nodes, countdown}

-- the items are what passes of all, up to those that are left
pub record IsGathered (test : ℕ → Bool) (all left items : List ℕ) : Type 0 where
  pub parts : filter test all ≡ items ++ filter test left
  pub room : length items + length left ≤ length all

module _ (test : ℕ → Bool) (all : List ℕ) where
  -- at first no items are gathered, and all are left
  pub gather_none : IsGathered test all all []
  gather_none = record { parts = refl; room = omega arith }

  -- the next one is gathered if it passes
  pub gather_next : (x : ℕ) (left items : List ℕ) → IsGathered test all (x ∷ left) items → IsGathered test all left (items ++ cond (test x) (x ∷ []) [])
  gather_next x left items g = record {
    parts = g.parts ∙ kept (test x);
    room = omega (arith, g.room, length-append items (cond (test x) (x ∷ []) []), few (test x));
  }
    where
      kept : (b : Bool) → items ++ cond b (x ∷ filter test left) (filter test left) ≡ items ++ cond b (x ∷ []) [] ++ filter test left
      kept true = sym (append_assoc items (x ∷ []) (filter test left))
      kept false = ap (λ l. l ++ filter test left) (sym (append-nil items))

      few : (b : Bool) → length (cond b (x ∷ []) []) ≤ 1
      few true = omega arith
      few false = omega arith

  -- there is room for one more
  pub gather_room : (x : ℕ) (left items : List ℕ) → IsGathered test all (x ∷ left) items → length items < length all
  gather_room x left items g = omega (arith, g.room)

  -- when none are left, the items are all that pass
  pub gather_all : (items : List ℕ) → IsGathered test all [] items → items ≡ filter test all
  gather_all items g = sym (g.parts ∙ append-nil items)

-- there are 128 leaves
pub leaves_count : length tree_leaves ≡ 128
unfolding tree_leaves
leaves_count = refl

-- there are 127 inner nodes
pub inners_count : length inner_nodes ≡ 127
unfolding inner_nodes
inners_count = refl

-- the leaves from that of index i on, counted from 0
unfoldable pub leaves_from : ℕ → List ℕ
leaves_from i = range_with_len (128 + i) (128 - i)

-- the leaf of index i, and then those from the next index on
pub leaves_next : (i : ℕ) → i < 128 → leaves_from i ≡ (128 + i) ∷ leaves_from (i + 1)
unfolding leaves_from
leaves_next i h =
    let e : 128 - i ≡ suc (128 - (i + 1)) = omega arith in
    let f : 128 + i + 1 ≡ 128 + (i + 1) = omega arith in
    ap (range_with_len (128 + i)) e ∙ ap (λ u. (128 + i) ∷ range_with_len u (128 - (i + 1))) f

-- from index 128 on there are no leaves
pub leaves_end : (i : ℕ) → 128 ≤ i → leaves_from i ≡ []
unfolding leaves_from
leaves_end i h = let e : 128 - i ≡ 0 = omega arith in ap (range_with_len (128 + i)) e

-- the inner nodes below n, falling
unfoldable pub inners_below : ℕ → List ℕ
inners_below n = countdown (n - 1)

module _ (test : ℕ → Bool) where
  -- these are the leaves that pass, up to the leaf of index i
  abbrev pub AreLeavesBefore : ℕ → List ℕ → Type 0
  AreLeavesBefore i items = IsGathered test tree_leaves (leaves_from i) items

  -- these are the inner nodes that pass, from 127 down to n
  abbrev pub AreInnersFrom : ℕ → List ℕ → Type 0
  AreInnersFrom n items = IsGathered test inner_nodes (inners_below n) items

  -- before the first leaf none are gathered
  pub leaves_none : AreLeavesBefore 0 []
  unfolding tree_leaves leaves_from
  leaves_none = gather_none test tree_leaves

  -- the leaf of index i is the next of those that are left
  leaves_step : (i : ℕ) (items : List ℕ) → i < 128 → AreLeavesBefore i items →
      IsGathered test tree_leaves ((128 + i) ∷ leaves_from (i + 1)) items
  leaves_step i items h g = subst (λ (us : List ℕ). IsGathered test tree_leaves us items) (leaves_next i h) g

  -- that leaf is gathered if it passes
  pub leaves_more : (i : ℕ) (items : List ℕ) → i < 128 → AreLeavesBefore i items →
      AreLeavesBefore (i + 1) (items ++ cond (test (128 + i)) ((128 + i) ∷ []) [])
  leaves_more i items h g = gather_next test tree_leaves (128 + i) (leaves_from (i + 1)) items (leaves_step i items h g)

  -- there is room for one leaf more
  pub leaves_room : (i : ℕ) (items : List ℕ) → i < 128 → AreLeavesBefore i items → length items < 128
  leaves_room i items h g =
      omega (arith, leaves_count, gather_room test tree_leaves (128 + i) (leaves_from (i + 1)) items (leaves_step i items h g))

  -- after the last leaf all that pass are gathered
  pub leaves_all : (i : ℕ) (items : List ℕ) → 128 ≤ i → AreLeavesBefore i items → items ≡ filter test tree_leaves
  leaves_all i items h g =
      gather_all test tree_leaves items (subst (λ (us : List ℕ). IsGathered test tree_leaves us items) (leaves_end i h) g)

  -- before the inner node 127 none are gathered
  pub inners_none : AreInnersFrom 128 []
  unfolding inner_nodes inners_below
  inners_none = gather_none test inner_nodes

  -- the inner node n - 1 is the next of those that are left
  inners_step : (n : ℕ) (items : List ℕ) → 1 < n → AreInnersFrom n items →
      IsGathered test inner_nodes ((n - 1) ∷ inners_below (n - 1)) items
  unfolding inners_below
  inners_step n items h g =
      let e : n - 1 ≡ suc (n - 1 - 1) = omega arith in
      let f : suc (n - 1 - 1) ≡ n - 1 = omega arith in
      subst (λ (k : ℕ). IsGathered test inner_nodes (k ∷ countdown (n - 1 - 1)) items) f
      (subst (λ (k : ℕ). IsGathered test inner_nodes (countdown k) items) e g)

  -- that inner node is gathered if it passes
  pub inners_more : (n : ℕ) (items : List ℕ) → 1 < n → AreInnersFrom n items →
      AreInnersFrom (n - 1) (items ++ cond (test (n - 1)) ((n - 1) ∷ []) [])
  inners_more n items h g = gather_next test inner_nodes (n - 1) (inners_below (n - 1)) items (inners_step n items h g)

  -- there is room for one inner node more
  pub inners_room : (n : ℕ) (items : List ℕ) → 1 < n → AreInnersFrom n items → length items < 127
  inners_room n items h g =
      omega (arith, inners_count, gather_room test inner_nodes (n - 1) (inners_below (n - 1)) items (inners_step n items h g))

  -- after the inner node 1 all that pass are gathered
  pub inners_all : (n : ℕ) (items : List ℕ) → n ≤ 1 → AreInnersFrom n items → items ≡ filter test inner_nodes
  unfolding inners_below
  inners_all n items h g =
      let e : n - 1 ≡ 0 = omega arith in
      gather_all test inner_nodes items (subst (λ (k : ℕ). IsGathered test inner_nodes (countdown k) items) e g)
