-- Rings are read back from their bytes, and the nodes of a ring.
use Rattle.std.proofs.Common.{◌≡◌, ℕ, zero, suc, ◌+◌, ◌-◌, ◌*◌, ◌<◌, ◌≤◌, List, [], ◌∷◌, ◌++◌, length, take, drop, map, replicate, sym, refl, ap, ap₂, ◌∙◌, inl}
use Rattle.std.proofs.Common.{inr, arith}
use Rattle.std.specs.List.{range_with_len}
use Rattle.std.proofs.lemmas.List.{take_at, drop_at, length-append}
use Rattle.byte_strings.specs.Numbers.{be_number4}
use Rattle.byte_strings.specs.Strings.{part}
use Rattle.tree.specs.Tree.{IsLeaf, IsInner, IsBeneath, ancestor}
use Rattle.tree.proofs.Halvings.{halved_add, halved_low}
use Rattle.keys.specs.declared.NodeKey.{NodeKey}
use Rattle.keys.specs.Names.{unmade_key}
use Rattle.file_rules.proofs.Places.{further, number4_at, big4_back}
use Rattle.player_rules.specs.Rings.{entry_at, entries, entry_bytes, ring_bytes}
use Rattle.tree.proofs.Members.{In}

-- an epoch of four bytes, and a key of 32
abbrev pub IsFitting : NodeKey → Type 0
IsFitting e = (e.made < 4294967296) × (length e.key ≡ 32)

-- each entry fits its place in a ring
abbrev AllFitting : List NodeKey → Type 0
AllFitting [] = Unit {0}
AllFitting (e ∷ es) = IsFitting e × AllFitting es

-- if each key that is made of the list fits, all fit
pub map_fitting : (f : ℕ → NodeKey) (ks : List ℕ) → ((k : ℕ) → In k ks → IsFitting (f k)) → AllFitting (map f ks)
map_fitting f [] h = tt
map_fitting f (k ∷ ks) h = (h k (inl refl), map_fitting f ks (λ j i. h j (inr i)))

-- an entry has 36 bytes
entry_long : (e : NodeKey) → IsFitting e → length (entry_bytes e) ≡ 36
entry_long e f = omega (arith, f.1)

-- 36 bytes to an entry
pub ring_long : (es : List NodeKey) → ((e : NodeKey) → In e es → length e.key ≡ 32) → length (ring_bytes es) ≡ 36 * length es
ring_long [] sized = refl
ring_long (e ∷ es) sized = omega (arith, length-append e.key (ring_bytes es), sized e (inl refl), ring_long es (λ x i. sized x (inr i)))

-- in entries that fit, every key has 32 bytes
fitting_long : (es : List NodeKey) → AllFitting es → (e : NodeKey) → In e es → length e.key ≡ 32
fitting_long [] f e i = absurd i
fitting_long (x ∷ es) f e (inl q) = ap (λ (y : NodeKey). length y.key) q ∙ f.0.1
fitting_long (x ∷ es) f e (inr i) = fitting_long es f.1 e i

module _ (bs : List ℕ) where
  -- an entry that was written at its place is read back there
  entry_there : (k : ℕ) (e : NodeKey) (rest : List ℕ) → IsFitting e → drop (36 * k) bs ≡ entry_bytes e ++ rest → entry_at bs k ≡ e
  entry_there k e rest f h =
      let made : be_number4 bs (36 * k) ≡ e.made = number4_at bs _ (36 * k) h ∙ big4_back e.made (e.key ++ rest) f.0 in
      let key : part 32 (36 * k + 4) bs ≡ e.key = ap (take 32) (further bs _ (36 * k) h 4) ∙ take_at e.key rest 32 f.1 in
      λ i. record { made = made i; key = key i }

  -- entries that were written one after the other are read back
  entries_there : (k : ℕ) (es : List NodeKey) → AllFitting es → drop (36 * k) bs ≡ ring_bytes es → map (entry_at bs) (range_with_len k (length es)) ≡ es
  entries_there k [] f h = refl
  entries_there k (e ∷ es) f h =
      let at : 36 * (k + 1) ≡ 36 * k + 36 = omega arith in
      ap₂ ◌∷◌ (entry_there k e (ring_bytes es) f.0 h)
      (entries_there (k + 1) es f.1 (ap (λ n. drop n bs) at ∙ further bs _ (36 * k) h 36 ∙ drop_at (entry_bytes e) (ring_bytes es) 36 (entry_long e f.0)))

-- the ring of eight entries has 288 bytes, and is read back as these entries
pub entries_back : (ring : List ℕ) (es : List NodeKey) → length es ≡ 8 → AllFitting es → ring ≡ ring_bytes es → (length ring ≡ 288) × (entries ring ≡ es)
unfolding entries
entries_back ring es l f h = (
  ap (λ (s : List ℕ). length s) h ∙ ring_long es (fitting_long es f) ∙ omega arith,
  ap (λ n. map (entry_at ring) (range_with_len 0 n)) (sym l) ∙ entries_there ring 0 es f h,
)

-- seven entries that were never made are zeros
pub zeros : replicate 252 0 ≡ ring_bytes (replicate 7 unmade_key)
zeros = refl

-- higher up the numbers are lower
pub lower : (i k v : ℕ) → i ≤ k → ancestor k v ≤ ancestor i v
lower i k v l =
    let e : k - i + i ≡ k = omega arith in
    omega (arith, halved_low (k - i) (ancestor i v), halved_add (k - i) i v, ap (λ j. ancestor j v) e)

-- no node from a leaf to the root is 0
pub node_there : (k v : ℕ) → IsLeaf v → k < 8 → 0 < ancestor k v
node_there k v l h = omega (arith, lower k 7 v (omega arith), l.0)

-- every node above the leaf, up to the root, is an inner node
pub inner_there : (k v : ℕ) → IsLeaf v → 1 ≤ k → k < 8 → IsInner (ancestor k v)
inner_there k v l o h = (node_there k v l h, omega (arith, lower 1 k v o, l.1))

-- a node is beneath each node further up its way
pub beneath_there : (k v : ℕ) → 1 ≤ k → IsBeneath v (ancestor k v)
beneath_there zero v l = absurd (omega arith)
beneath_there (suc k) v l = (k, refl)
