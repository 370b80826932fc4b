-- The last 32 bytes that a publishing draws are the root's new key.
use Rattle.std.proofs.Common.{◌≡◌, ℕ, zero, suc, ◌+◌, ◌-◌, ◌*◌, ◌≤◌, Bool, true, false, cond, List, [], ◌∷◌, ◌++◌, filter, length, take, drop, get_or, sym, ap}
use Rattle.std.proofs.Common.{◌∙◌, arith, append_assoc}
use Rattle.std.proofs.lemmas.List.{length-append, length-take-le, drop-take}
use Rattle.std.proofs.Math.Seq.{get_or-append_seam}
use Rattle.tree.specs.declared.types.Code.{Code}
use Rattle.tree.specs.Tree.{countdown, inner_nodes}
use Rattle.tree.specs.Rows.{is_changed, changed_nodes}
use Rattle.keys.specs.Names.{Keys}
use Rattle.cradles.specs.Draws.{arrival_leaves, receivers, drawn_size}
use Rattle.server_rules.specs.Laws.{IsRenewal}

-- of the numbers from k down to 1 that pass, 1 is the last
ends : (p : ℕ → Bool) → p 1 ≡ true → (k : ℕ) → (zs : List ℕ) × (filter p (countdown (suc k)) ≡ zs ++ (1 ∷ []))
ends p e zero = ([], ap (λ b. cond b (1 ∷ []) []) e)
ends p e (suc k) = go (p (suc (suc k))) (ends p e k)
  where
    go : (b : Bool) → (zs : List ℕ) × (filter p (countdown (suc k)) ≡ zs ++ (1 ∷ [])) →
        (zs : List ℕ) × (cond b (suc (suc k) ∷ filter p (countdown (suc k))) (filter p (countdown (suc k))) ≡ zs ++ (1 ∷ []))
    go true r = (suc (suc k) ∷ r.0, ap (λ (l : List ℕ). suc (suc k) ∷ l) r.1)
    go false r = r

-- of the nodes that get a new key, the root is the last
root_last : (row : List Code) → is_changed row 1 ≡ true → (zs : List ℕ) × (changed_nodes row ≡ zs ++ (1 ∷ []))
unfolding changed_nodes inner_nodes
root_last row e = ends (is_changed row) e 126

module _ (epoch : ℕ) (row : List Code) (material : List ℕ) (former present : Keys) (r : IsRenewal epoch row material former present)
    (root : is_changed row 1 ≡ true) where
  -- who receives a key before the root
  abbrev before_root : List ℕ
  before_root = arrival_leaves row ++ (root_last row root).0

  -- the root is the last that receives a key
  receivers_are : receivers row ≡ before_root ++ (1 ∷ [])
  receivers_are = ap (λ (l : List ℕ). arrival_leaves row ++ l) (root_last row root).1 ∙ sym (append_assoc (arrival_leaves row) (root_last row root).0 (1 ∷ []))

  -- the last 32 bytes that are drawn are the root's new key
  pub root_key : drawn_size row ≤ length material → drop (length (take (drawn_size row) material) - 32) (take (drawn_size row) material) ≡ (present 1).key
  root_key enough =
      let n : ℕ = length before_root in
      let many : length (receivers row) ≡ n + 1 = ap (λ (l : List ℕ). length l) receivers_are ∙ length-append before_root (1 ∷ []) in
      let long : drawn_size row ≡ 32 * n + 32 = omega (arith, many) in
      let all : length (take (drawn_size row) material) ≡ drawn_size row = length-take-le (drawn_size row) material enough in
      let from : length (take (drawn_size row) material) - 32 ≡ 32 * n = omega (arith, all, long) in
      let last : get_or (receivers row) n 0 ≡ 1 = ap (λ (l : List ℕ). get_or l n 0) receivers_are ∙ get_or-append_seam before_root 1 [] 0 in
      ap (λ i. drop i (take (drawn_size row) material)) from
      ∙ ap (λ i. drop (32 * n) (take i material)) long
      ∙ drop-take (32 * n) 32 material
      ∙ sym (r.drawn_in_order n (omega (arith, many)))
      ∙ ap (λ i. (present i).key) last
