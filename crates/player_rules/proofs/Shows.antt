-- A ring that holds the keys of all nodes from a leaf to the root shows the root's.
use Rattle.std.proofs.Common.{◌≡◌, ℕ, ◌+◌, ◌++◌, List, [], ◌∷◌, length, map, Ok, not, cond, eqb, sym, ap, ◌∙◌, arith, append_assoc}
use Rattle.std.specs.List.{range_with_len}
use Rattle.std.proofs.lemmas.List.{length-append}
use Rattle.std.proofs.lemmas.List.Concat.{flat_map-append}
use Rattle.byte_strings.specs.Numbers.{be_bytes4}
use Rattle.byte_strings.specs.Strings.{part}
use Rattle.byte_strings.proofs.Parts.{middle_part}
use Rattle.refusal.specs.Refusals.{refusal}
use Rattle.tree.specs.Tree.{IsLeaf, ancestor}
use Rattle.tree.proofs.Members.{In, in_map}
use Rattle.keys.specs.declared.NodeKey.{NodeKey}
use Rattle.keys.specs.Names.{Keys}
use Rattle.player_rules.proofs.Rings.{ring_long}
use Rattle.player_rules.specs.Rings.{entry_bytes, ring_bytes, path_entries}
use Rattle.player_rules.specs.Players.{show_verdict}

-- the key of the entry behind these
behind : (es : List NodeKey) (e : NodeKey) (n : ℕ) → length (ring_bytes es) ≡ n → length e.key ≡ 32 → part 32 (n + 4) (ring_bytes (es ++ (e ∷ []))) ≡ e.key
behind es e n long sized =
    ap (part 32 (n + 4)) (flat_map-append entry_bytes es (e ∷ []) ∙ sym (append_assoc (ring_bytes es) (be_bytes4 e.made) (e.key ++ [])))
    ∙ middle_part (ring_bytes es ++ be_bytes4 e.made) e.key [] (n + 4) 32 (length-append (ring_bytes es) (be_bytes4 e.made) ∙ ap (λ i. i + 4) long) sized

module _ (keys : Keys) (leaf : ℕ) (l : IsLeaf leaf) (sized : (n : ℕ) → length (keys n).key ≡ 32) where
  -- the key of the node so many halvings up
  abbrev key_at_level : ℕ → NodeKey
  key_at_level k = keys (ancestor k leaf)

  -- each of these keys has 32 bytes
  at_sized : (ks : List ℕ) (e : NodeKey) → In e (map key_at_level ks) → length e.key ≡ 32
  at_sized ks e i = let r = in_map key_at_level ks e i in ap (λ (x : NodeKey). length x.key) r.1.1 ∙ sized (ancestor r.0 leaf)

  -- a ring with the keys from the leaf to the root has 288 bytes
  path_long : length (ring_bytes (path_entries keys leaf)) ≡ 288
  unfolding path_entries
  path_long = ring_long (map key_at_level (range_with_len 0 8)) (at_sized (range_with_len 0 8))

  -- such a ring shows the key of the root
  pub path_shows : show_verdict (ring_bytes (path_entries keys leaf)) ≡ Ok (keys 1).key
  unfolding path_entries
  path_shows =
      let root : ancestor 7 leaf ≡ 1 = omega (arith, l.0, l.1) in
      let below : List NodeKey = map key_at_level (range_with_len 0 7) in
      ap (λ n. cond (not (eqb n 288)) (refusal 14 []) (Ok (part 32 256 (ring_bytes (path_entries keys leaf))))) path_long
      ∙ ap Ok (behind below (key_at_level 7) 252 (ring_long below (at_sized (range_with_len 0 7))) (sized (ancestor 7 leaf))
      ∙ ap (λ n. (keys n).key) root)
