-- Going up the tree, by counts of halvings.
use Rattle.std.proofs.Common.{◌≡◌, ℕ, zero, suc, ◌+◌, ◌-◌, ◌*◌, ◌/◌, ◌<◌, ◌≤◌, Bool, true, ◌&&◌, eqb, ltb, leb, ◌⊎◌, IsTrue, ◌↔◌, sym, refl, ap, ◌∙◌, inl, inr}
use Rattle.std.proofs.Common.{suc-add, zero-add, arith}
use Rattle.std.specs.List.{range_with_len, list_any}
use Rattle.std.proofs.lemmas.Bool.{cases_eq, cases_lt, and_from, and_parts, eq-eqb, eqb-true, le-leb, lt-ltb, leb-true, ltb-true}
use Rattle.std.proofs.lemmas.Bool.Decides.{same_from_decides}
use Rattle.tree.specs.Tree.{ancestor, IsWithin, IsBeneath, IsLeaf, IsInner, is_within, is_beneath, is_leaf, is_inner}
use Rattle.tree.proofs.Members.{some_from, some_who, counting_in}

-- tests that pass together are equal
pub same_test : (a b : Bool) → (a ≡ true → b ≡ true) → (b ≡ true → a ≡ true) → a ≡ b
same_test a b f g = same_from_decides a b (f, g) (λ e. e, λ e. e)

-- halvings add up
pub halved_add : (i j n : ℕ) → ancestor i (ancestor j n) ≡ ancestor (i + j) n
halved_add zero j n = rw zero-add
halved_add (suc i) j n = rw suc-add (ap (λ x. x / 2) (halved_add i j n))

-- halving first, or last
pub halved_first : (k n : ℕ) → ancestor k (n / 2) ≡ ancestor (suc k) n
halved_first zero n = refl
halved_first (suc k) n = ap (λ x. x / 2) (halved_first k n)

-- halving never makes a number greater
pub halved_low : (k n : ℕ) → ancestor k n ≤ n
halved_low zero n = omega arith
halved_low (suc k) n = omega (arith, halved_low k n)

-- 0 stays 0, however often it is halved
halved_zero : (k : ℕ) → ancestor k 0 ≡ 0
halved_zero k = omega (arith, halved_low k 0)

-- eight halvings and more make 0 of a node
halved_out : (k m : ℕ) → m < 256 → ancestor (k + 8) m ≡ 0
halved_out k m h = sym (halved_add k 8 m) ∙ ap (ancestor k) (omega arith) ∙ halved_zero k

-- a node is not 0, so few halvings lead to it
few_halvings : (k m : ℕ) → m < 256 → 0 < ancestor k m → k < 8
few_halvings k m h p = elim (cases_lt k 8) [
  | inl l ↦ l
  | inr g ↦ let e : k ≡ (k - 8) + 8 = omega arith in absurd (omega (arith, ap (λ i. ancestor i m) e ∙ halved_out (k - 8) m h))
]

-- The tests say what the facts say.

-- what passes the test is n or beneath it
pub within_is : (m n : ℕ) → is_within m n ≡ true → IsWithin m n
unfolding is_within
within_is m n e =
    let halves = λ (k : ℕ). eqb (ancestor k m) n in
    let w = some_who halves (range_with_len 0 8) (and_parts (ltb 0 n) (list_any halves (range_with_len 0 8)) e).1 in
    (w.0, eqb-true (ancestor w.0 m) n w.1.1)

-- nothing passes for 0, which is no node
pub within_node : (m n : ℕ) → is_within m n ≡ true → 0 < n
unfolding is_within
within_node m n e = ltb-true 0 n (and_parts (ltb 0 n) (list_any (λ k. eqb (ancestor k m) n) (range_with_len 0 8)) e).0

-- a node itself, and whatever is beneath it, passes the test
pub within_from : (m n : ℕ) → m < 256 → 0 < n → IsWithin m n → is_within m n ≡ true
unfolding is_within
within_from m n h l (k, e) =
    and_from (ltb 0 n) (list_any (λ i. eqb (ancestor i m) n) (range_with_len 0 8)) (lt-ltb 0 n l)
    (some_from (λ i. eqb (ancestor i m) n) (range_with_len 0 8) k
    (counting_in 0 8 k (omega arith) (few_halvings k m h (omega arith)))
    (eq-eqb (ancestor k m) n e))

-- what passes the test is beneath n
pub beneath_is : (m n : ℕ) → is_beneath m n ≡ true → IsBeneath m n
beneath_is m n e = let w = within_is (m / 2) n e in (w.0, sym (halved_first w.0 m) ∙ w.1)

-- whatever is beneath a node passes the test
pub beneath_from : (m n : ℕ) → m < 256 → 0 < n → IsBeneath m n → is_beneath m n ≡ true
beneath_from m n h l (k, e) = within_from (m / 2) n (omega arith) l (k, halved_first k m ∙ e)

-- for a node, exactly the node itself and what is beneath it pass the test
pub within_iff : (m n : ℕ) → m < 256 → IsTrue (is_within m n) ↔ ((0 < n) × IsWithin m n)
within_iff m n h = (λ e. (within_node m n e, within_is m n e), λ w. within_from m n h w.0 w.1)

-- for a node, exactly what is beneath it passes the test
pub beneath_iff : (m n : ℕ) → m < 256 → IsTrue (is_beneath m n) ↔ ((0 < n) × IsBeneath m n)
beneath_iff m n h = (λ e. (within_node (m / 2) n e, beneath_is m n e), λ b. beneath_from m n h b.0 b.1)

-- a number that passes the test is a leaf
pub leaf_is : (u : ℕ) → is_leaf u ≡ true → IsLeaf u
leaf_is u e = let p = and_parts (leb 128 u) (ltb u 256) e in (leb-true 128 u p.0, ltb-true u 256 p.1)

-- every leaf passes the test
pub leaf_from : (u : ℕ) → IsLeaf u → is_leaf u ≡ true
leaf_from u l = and_from (leb 128 u) (ltb u 256) (le-leb 128 u l.0) (lt-ltb u 256 l.1)

-- a number that passes the test is an inner node
pub inner_is : (n : ℕ) → is_inner n ≡ true → IsInner n
inner_is n e = let p = and_parts (ltb 0 n) (ltb n 128) e in (ltb-true 0 n p.0, ltb-true n 128 p.1)

-- every inner node passes the test
pub inner_from : (n : ℕ) → IsInner n → is_inner n ≡ true
inner_from n i = and_from (ltb 0 n) (ltb n 128) (lt-ltb 0 n i.0) (lt-ltb n 128 i.1)

-- exactly the leaves pass the test
pub leaf_iff : (u : ℕ) → IsTrue (is_leaf u) ↔ (IsLeaf u)
leaf_iff u = (leaf_is u, leaf_from u)

-- exactly the inner nodes pass the test
pub inner_iff : (n : ℕ) → IsTrue (is_inner n) ↔ (IsInner n)
inner_iff n = (inner_is n, inner_from n)

-- A walk upwards finds it: on while the number is greater than n, and then one comparison.

-- one step up
pub within_step : (m n : ℕ) → m < 256 → n < m → is_within m n ≡ is_within (m / 2) n
within_step m n h l = same_test (is_within m n) (is_within (m / 2) n)
    (λ e. up (within_node m n e) (within_is m n e))
    (λ e. let w = within_is (m / 2) n e in within_from m n h (within_node (m / 2) n e) (suc w.0, sym (halved_first w.0 m) ∙ w.1))
  where
    up : 0 < n → IsWithin m n → is_within (m / 2) n ≡ true
    up o (zero, e) = absurd (omega arith)
    up o (suc k, e) = within_from (m / 2) n (omega arith) o (k, halved_first k m ∙ e)

-- no node above m is greater than m
pub within_stop : (m n : ℕ) → m < 256 → m ≤ n → is_within m n ≡ (ltb 0 n && eqb m n)
within_stop m n h l = same_test (is_within m n) (ltb 0 n && eqb m n)
    (λ e. let w = within_is m n e in and_from (ltb 0 n) (eqb m n) (lt-ltb 0 n (within_node m n e)) (eq-eqb m n (omega (arith, halved_low w.0 m, w.1))))
    (λ e. let p = and_parts (ltb 0 n) (eqb m n) e in within_from m n h (ltb-true 0 n p.0) (0, eqb-true m n p.1))

-- the lemmas by which a search goes through the halvings of a node
pub ruleset walk = (within_step, within_stop)

-- What stands where.

-- a node is within itself
pub within_self : (n : ℕ) → IsWithin n n
within_self n = (0, refl)

-- what is within a node is within all that this node is within
pub within_trans : (u m n : ℕ) → IsWithin u m → IsWithin m n → IsWithin u n
within_trans u m n a b = (b.0 + a.0, sym (halved_add b.0 a.0 u) ∙ ap (ancestor b.0) a.1 ∙ b.1)

-- what is within a node is within the node's parent
pub within_up : (u m : ℕ) → IsWithin u m → IsWithin u (m / 2)
within_up u m (k, e) = (suc k, ap (λ x. x / 2) e)

-- what is beneath a node is within it
pub beneath_within : (m n : ℕ) → IsBeneath m n → IsWithin m n
beneath_within m n (k, e) = (suc k, e)

-- what is within a node is the node itself or beneath it
pub within_cases : (m n : ℕ) → IsWithin m n → (m ≡ n) ⊎ IsBeneath m n
within_cases m n (zero, e) = inl e
within_cases m n (suc k, e) = inr (k, e)

-- a node beneath another has the greater number
pub beneath_greater : (m n : ℕ) → 0 < n → IsBeneath m n → n < m
beneath_greater m n h (k, e) = omega (arith, halved_low k m)

-- the way to n goes through the parent
pub beneath_parent : (m n : ℕ) → IsBeneath m n → IsWithin (m / 2) n
beneath_parent m n (k, e) = (k, halved_first k m ∙ e)

-- a node beneath n is a child of n or beneath one
pub beneath_child : (m n : ℕ) → IsBeneath m n → IsWithin m (2 * n) ⊎ IsWithin m (2 * n + 1)
beneath_child m n (k, e) = elim (cases_eq (ancestor k m) (2 * n)) [
  | inl q ↦ inl (k, q)
  | inr x ↦ inr (k, omega arith)
]

-- nothing is beneath a leaf
pub leaf_alone : (m u : ℕ) → m < 256 → 128 ≤ u → IsWithin m u → m ≡ u
leaf_alone m u h l (zero, e) = e
leaf_alone m u h l (suc k, e) = absurd (omega (arith, halved_low k m))
