-- The search of a player: what it finds opens, and no wrap before it does.
use Rattle.std.proofs.Common.{◌≡◌, ℕ, zero, suc, ◌+◌, ◌<◌, ◌≤◌, Bool, true, false, cond, eqb, List, [], ◌∷◌, get_or, Some, None, Option, refl, sym, ap, ◌∙◌}
use Rattle.std.proofs.Common.{subst, zero-add, arith}
use Rattle.std.specs.List.{range_with_len, position}
use Rattle.std.proofs.lemmas.Bool.{and_parts, and_from, eqb-true, eqb-false, eq-eqb, both_ways}
use Rattle.std.proofs.lemmas.List.FromFn.{get_or-range_with_len}
use Rattle.std.proofs.lemmas.List.Quantifiers.{position-Some}
use Rattle.keys.specs.declared.NodeKey.{NodeKey}
use Rattle.keys.specs.Names.{keys_in}
use Rattle.tree.specs.Tree.{ancestor}
use Rattle.file_rules.specs.Files.{WrappedKey}
use Rattle.byte_strings.proofs.Positions.{none_passes}
use Rattle.player_rules.specs.Searches.{OpenableWrap, is_entry, entry_of, entry_for, wrap_or_later, openable_wrap}
use Rattle.player_rules.specs.Laws.{Opens}

-- one of the eight entries, which passes a test; or none, where none does
abbrev IsPassing : (ℕ → Bool) → Option ℕ → Type 0
IsPassing test (Some k) = (k < 8) × (test k ≡ true)
IsPassing test None = (k : ℕ) → k < 8 → test k ≡ false

-- the search among the eight entries finds one that passes, unless none does
first : (test : ℕ → Bool) → IsPassing test (position test (range_with_len 0 8))
first test = go (position test (range_with_len 0 8)) refl
  where
    at : (k : ℕ) → k < 8 → test (get_or (range_with_len 0 8) k 0) ≡ test k
    at k l = ap test (get_or-range_with_len 0 8 k 0 l ∙ zero-add k)

    go : (o : Option ℕ) → position test (range_with_len 0 8) ≡ o → IsPassing test o
    go (Some k) e = let p = position-Some test (range_with_len 0 8) k 0 e in (p.0, sym (at k p.0) ∙ p.1)
    go None e = λ k l. sym (at k l) ∙ none_passes test (range_with_len 0 8) k 0 e l

module _ (ring : List NodeKey) (leaf node : ℕ) where
  -- the wrap of that index opens by that entry of the ring
  abbrev OpensAt : List WrappedKey → ℕ → ℕ → Type 0
  OpensAt = Opens ring leaf node

  -- the entry opens the first of the wraps; without one, none does
  abbrev IsEntryFor : WrappedKey → Option ℕ → Type 0
  IsEntryFor w (Some k) = (ws : List WrappedKey) → OpensAt (w ∷ ws) 0 k
  IsEntryFor w None = (ws : List WrappedKey) (k : ℕ) → OpensAt (w ∷ ws) 0 k → ⊥

  -- the entry that is found for a wrap opens it, and if none is found, none opens it
  entry : (w : WrappedKey) → IsEntryFor w (entry_for ring leaf node w)
  unfolding entry_of
  entry w = here (eqb w.content node) refl
    where
      test : ℕ → Bool
      test = is_entry ring leaf w.opener

      by : (o : Option ℕ) → w.content ≡ node → IsPassing test o → IsEntryFor w o
      by (Some k) c f = λ ws.
          let p = and_parts (eqb (ancestor k leaf) w.opener.node) (eqb (keys_in ring k).made w.opener.epoch) f.1 in
          record { in_file = omega arith; in_ring = f.0; content = c; opener_node = eqb-true _ _ p.0; opener_epoch = eqb-true _ _ p.1 }
      by None c f = λ ws k o. both_ways (test k) (f k o.in_ring) (and_from _ _ (eq-eqb _ _ o.opener_node) (eq-eqb _ _ o.opener_epoch))

      here : (b : Bool) → eqb w.content node ≡ b → IsEntryFor w (cond b (position test (range_with_len 0 8)) None)
      here true e = by (position test (range_with_len 0 8)) (eqb-true w.content node e) (first test)
      here false e = λ ws k o. eqb-false w.content node e o.content

  -- with one wrap more in front, what opens has the next index
  one_on : (w : WrappedKey) (ws : List WrappedKey) (i k : ℕ) → OpensAt ws i k → OpensAt (w ∷ ws) (suc i) k
  one_on w ws i k o =
      record { in_file = omega (arith, o.in_file); in_ring = o.in_ring; content = o.content; opener_node = o.opener_node; opener_epoch = o.opener_epoch }

  -- without the first wrap, what opens has the index before
  one_back : (w : WrappedKey) (ws : List WrappedKey) (i k : ℕ) → OpensAt (w ∷ ws) (suc i) k → OpensAt ws i k
  one_back w ws i k o =
      record { in_file = omega (arith, o.in_file); in_ring = o.in_ring; content = o.content; opener_node = o.opener_node; opener_epoch = o.opener_epoch }

  -- what a search says of these wraps, the first of which has that index
  abbrev IsFirstOpenable : ℕ → List WrappedKey → Option OpenableWrap → Type 0
  IsFirstOpenable index ws (Some it) = (j : ℕ) × ((index + j ≡ it.wrap) × (OpensAt ws j it.entry × ((i k : ℕ) → OpensAt ws i k → j ≤ i)))
  IsFirstOpenable index ws None = (i k : ℕ) → OpensAt ws i k → ⊥

  -- the search finds the first wrap that opens, or none does
  searched : (index : ℕ) (ws : List WrappedKey) → IsFirstOpenable index ws (openable_wrap ring leaf node index ws)
  searched index [] = λ i k o. omega (arith, o.in_file)
  searched index (w ∷ ws) = go (entry_for ring leaf node w) (entry w) (openable_wrap ring leaf node (index + 1) ws) (searched (index + 1) ws)
    where
      go : (o : Option ℕ) → IsEntryFor w o → (later : Option OpenableWrap) → IsFirstOpenable (index + 1) ws later →
          IsFirstOpenable index (w ∷ ws) (wrap_or_later index o later)
      go (Some k) f later s = (0, (omega arith, (f ws, λ i j o. omega arith)))
      go None none None s = past
        where
          past : (i k : ℕ) → OpensAt (w ∷ ws) i k → ⊥
          past zero k o = none ws k o
          past (suc i) k o = s i k (one_back w ws i k o)
      go None none (Some it) s = (suc s.0, (omega (arith, s.1.0), (one_on w ws s.0 it.entry s.1.1.0, before)))
        where
          before : (i k : ℕ) → OpensAt (w ∷ ws) i k → suc s.0 ≤ i
          before zero k o = absurd (none ws k o)
          before (suc i) k o = omega (arith, s.1.1.1 i k (one_back w ws i k o))

  module _ (wraps : List WrappedKey) where
    -- what the search finds opens
    pub found_opens : (it : OpenableWrap) → openable_wrap ring leaf node 0 wraps ≡ Some it → Opens ring leaf node wraps it.wrap it.entry
    found_opens it e =
        let f = subst (IsFirstOpenable 0 wraps) e (searched 0 wraps) in
        subst (λ (i : ℕ). OpensAt wraps i it.entry) (sym (zero-add f.0) ∙ f.1.0) f.1.1.0

    -- no wrap before the one that is found opens
    pub found_first : (it : OpenableWrap) → openable_wrap ring leaf node 0 wraps ≡ Some it → (i k : ℕ) → Opens ring leaf node wraps i k → it.wrap ≤ i
    found_first it e i k o = let f = subst (IsFirstOpenable 0 wraps) e (searched 0 wraps) in omega (arith, f.1.0, f.1.1.1 i k o)

    -- if the search finds none, none opens
    pub none_opens : openable_wrap ring leaf node 0 wraps ≡ None → (i k : ℕ) → Opens ring leaf node wraps i k → ⊥
    none_opens e = subst (IsFirstOpenable 0 wraps) e (searched 0 wraps)
