-- Lists of changed nodes, which fall: how long they are, and that they pass the check of a file.
use Rattle.std.proofs.Common.{◌≡◌, ℕ, suc, ◌+◌, ◌<◌, ◌≤◌, true, List, [], ◌∷◌, ◌++◌, length, drop, inl, inr, sym, ap, ◌∙◌, subst, arith}
use Rattle.byte_strings.specs.Numbers.{byte_at}
use Rattle.byte_strings.specs.Strings.{IsBytes}
use Rattle.file_rules.specs.Layout.{is_valid_node, node_fields}
use Rattle.file_rules.specs.Laws.{Falls}
use Rattle.file_rules.proofs.Passing.{AllPass}
use Rattle.file_rules.proofs.Places.{at_first, further}
use Rattle.tree.proofs.Members.{In}

-- a list that falls still does with a greater node in front
pub falls_more : (b n : ℕ) (ns : List ℕ) → n < b → Falls n ns → Falls b (n ∷ ns)
falls_more b n [] h f = absurd f
falls_more b n (m ∷ ns) h f = (h, f)

-- there is one node at least, and there are fewer than the bound
pub falls_few : (b : ℕ) (ns : List ℕ) → Falls b ns → (1 ≤ length ns) × (length ns < b)
falls_few b [] f = absurd f
falls_few b (n ∷ []) f = (omega arith, omega arith)
falls_few b (n ∷ m ∷ ns) f = let r = falls_few n (m ∷ ns) f.1 in (omega arith, omega arith)

-- the first of them is above 0 and below the bound
pub falls_first : (b n : ℕ) (ns : List ℕ) → Falls b (n ∷ ns) → (0 < n) × (n < b)
falls_first b n [] f = (omega arith, omega arith)
falls_first b n (m ∷ ns) f = let r = falls_few n (m ∷ ns) f.1 in (omega arith, omega arith)

-- none of them is 0
pub falls_node : (b : ℕ) (ns : List ℕ) → Falls b ns → (x : ℕ) → In x ns → 0 < x
falls_node b [] f x h = absurd f
falls_node b (n ∷ ns) f x (inl e) = let r = falls_first b n ns f in omega arith
falls_node b (n ∷ []) f x (inr h) = absurd h
falls_node b (n ∷ m ∷ ns) f x (inr h) = falls_node n (m ∷ ns) f.1 x h

-- each of them fits in a byte
pub falls_bytes : (b : ℕ) (ns : List ℕ) → b ≤ 256 → Falls b ns → IsBytes ns
falls_bytes b [] h f = tt
falls_bytes b (n ∷ []) h f = (omega arith, tt)
falls_bytes b (n ∷ m ∷ ns) h f = (omega arith, falls_bytes n (m ∷ ns) (omega arith) f.1)

-- node 1 passes as the last one
last_right : (before n : ℕ) → before ≤ 128 → (n < before) × (n ≡ 1) → is_valid_node before 0 n ≡ true
last_right before n h f = grind arith

-- a node below the one before it passes, where others follow
next_right : (before left n : ℕ) → before ≤ 128 → (0 < n) × (n < before) → is_valid_node before (suc left) n ≡ true
next_right before left n h f = grind arith

-- where falling nodes were written, their fields pass
pub falls_pass : (len : ℕ) (bs : List ℕ) (at before : ℕ) (ns rest : List ℕ) → drop at bs ≡ ns ++ rest → Falls before ns → before ≤ 128 →
    at + length ns ≤ len → AllPass len (node_fields bs at before (length ns))
falls_pass len bs at before [] rest e f h l = tt
falls_pass len bs at before (n ∷ []) rest e f h l =
    (l, (ap (is_valid_node before 0) (at_first bs (n ∷ rest) at e) ∙ last_right before n h f, tt))
falls_pass len bs at before (n ∷ m ∷ ns) rest e f h l =
    let v : byte_at bs at ≡ n = at_first bs (n ∷ m ∷ ns ++ rest) at e in
    let left = length (m ∷ ns) in
    let here = ap (is_valid_node before left) v ∙ next_right before (length ns) n h (falls_first before n (m ∷ ns) f) in
    let more : AllPass len (node_fields bs (at + 1) n left) =
    falls_pass len bs (at + 1) n (m ∷ ns) rest (further bs (n ∷ m ∷ ns ++ rest) at e 1) f.1 (omega arith) (omega arith) in
    (omega arith, (here, subst (λ (b : ℕ). AllPass len (node_fields bs (at + 1) b left)) (sym v) more))
