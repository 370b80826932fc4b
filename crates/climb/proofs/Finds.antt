-- The search over wraps that stand in a file.
use Rattle.std.proofs.Common.{◌≡◌, ℕ, zero, suc, ◌+◌, ◌<◌, List, [], ◌∷◌, Some, None, Option, sym, refl, ap, ◌∙◌, add-mul, arith}
use Rattle.std.proofs.lemmas.Option.{none-some, same_Some}
use Rattle.std.specs.Option.{option_map}
use Rattle.byte_strings.specs.Numbers.{byte_at}
use Rattle.keys.specs.declared.NodeKey.{NodeKey}
use Rattle.file_rules.specs.Layout.{wrap_count}
use Rattle.file_rules.specs.Reading.{wrap_at, wrap_place, wraps_from, parsed_file}
use Rattle.file_reader.specs.Views.{PlacedWrap, placed_wrap_of, placed_wrap_at, placed_wraps_from}
use Rattle.player_rules.proofs.Searches.{found_opens}
use Rattle.player_rules.specs.Searches.{OpenableWrap, entry_for, wrap_or_later, openable_wrap}
use Rattle.climb.specs.Finds.{openable_wrap_of, IsFoundIn}
use Rattle.file_reader.specs.declared.wraps.FileWrap.{FileWrap}
use Rattle.climb.proofs.Taken.{wrap_stands}

-- a wrap that a ring opens, as it is handed out, with the ring's entry
abbrev PlacedFound : Type 0
PlacedFound = PlacedWrap × ℕ

module _ (ring : List NodeKey) (leaf node : ℕ) where
  -- this wrap with the entry that opens it, or what is found later
  abbrev pub placed_or_later : PlacedWrap → Option ℕ → Option PlacedFound → Option PlacedFound
  placed_or_later p (Some k) later = Some (p, k)
  placed_or_later p None later = later

  -- the first of these wraps that a player can open
  abbrev pub openable_placed : List PlacedWrap → Option PlacedFound
  openable_placed [] = None
  openable_placed (p ∷ ps) = placed_or_later p (entry_for ring leaf node p.wrap) (openable_placed ps)

  -- by its index
  abbrev by_index : PlacedFound → OpenableWrap
  by_index it = record { wrap = it.0.index; entry = it.1 }

  -- handed out or by its index, the same wrap comes first
  by_index_or_later : (p : PlacedWrap) (o : Option ℕ) (later : Option PlacedFound) →
      option_map by_index (placed_or_later p o later) ≡ wrap_or_later p.index o (option_map by_index later)
  by_index_or_later p (Some k) later = refl
  by_index_or_later p None later = refl

  -- among the wraps from one place on, the search finds the same in the file as in what was parsed
  found_from : (L : ℕ) (bs : List ℕ) (at i k : ℕ) → at ≡ wrap_place L bs i →
      option_map by_index (openable_placed (placed_wraps_from L bs i k)) ≡ openable_wrap ring leaf node i (wraps_from L bs at k)
  found_from L bs at i zero e = refl
  found_from L bs at i (suc k) e =
      let next : at + (6 + L) ≡ wrap_place L bs (i + 1) = omega (arith, add-mul i 1 (6 + L)) in
      let here : ℕ → Option ℕ = λ place. entry_for ring leaf node (wrap_at L bs place) in
      by_index_or_later (placed_wrap_at L bs i) (here (wrap_place L bs i)) (openable_placed (placed_wraps_from L bs (i + 1) k))
      ∙ ap (λ place. wrap_or_later i (here place) (option_map by_index (openable_placed (placed_wraps_from L bs (i + 1) k)))) (sym e)
      ∙ ap (wrap_or_later i (here at)) (found_from L bs (at + (6 + L)) (i + 1) k next)

  module _ (L : ℕ) (bs : List ℕ) where
    -- the wraps of the file
    abbrev pub all_wraps : List PlacedWrap
    all_wraps = placed_wraps_from L bs 0 (wrap_count bs)

    -- among all wraps of the file, the search finds the same as in what was parsed
    found_all : option_map by_index (openable_placed all_wraps) ≡ openable_wrap ring leaf node 0 (parsed_file L bs).wraps
    found_all = let start : 10 + byte_at bs 7 ≡ wrap_place L bs 0 = omega arith in found_from L bs (10 + byte_at bs 7) 0 (wrap_count bs) start

    -- the wrap that is found in the file is the one that the player's search finds
    pub found_some : (w : FileWrap) (k : ℕ) → Some (placed_wrap_of w, k) ≡ openable_placed all_wraps →
        Some (openable_wrap_of (record { wrap = w; ring_entry = k })) ≡ openable_wrap ring leaf node 0 (parsed_file L bs).wraps
    found_some w k e = ap (option_map by_index) e ∙ found_all

    -- if none is found in the file, the player's search finds none
    pub found_none : None ≡ openable_placed all_wraps → None ≡ openable_wrap ring leaf node 0 (parsed_file L bs).wraps
    found_none e = ap (option_map by_index) e ∙ found_all

    -- what is found stands at the place of its index
    stands : (i n : ℕ) (p : PlacedWrap) (k : ℕ) → openable_placed (placed_wraps_from L bs i n) ≡ Some (p, k) →
        (p ≡ placed_wrap_at L bs p.index) × (p.index < i + n)
    stands i zero p k e = absurd (none-some _ e)
    stands i (suc n) p k e = go (entry_for ring leaf node (wrap_at L bs (wrap_place L bs i))) (λ q. stands (i + 1) n p k q) e
      where
        go : (o : Option ℕ) →
            (openable_placed (placed_wraps_from L bs (i + 1) n) ≡ Some (p, k) → (p ≡ placed_wrap_at L bs p.index) × (p.index < i + 1 + n)) →
            placed_or_later (placed_wrap_at L bs i) o (openable_placed (placed_wraps_from L bs (i + 1) n)) ≡ Some (p, k) →
            (p ≡ placed_wrap_at L bs p.index) × (p.index < i + suc n)
        go (Some j) later q =
            let same : placed_wrap_at L bs i ≡ p = ap (λ (x : PlacedFound). x.0) (same_Some _ _ q) in
            let index : i ≡ p.index = ap (λ (x : PlacedWrap). x.index) same in
            (sym same ∙ ap (placed_wrap_at L bs) index, omega arith)
        go None later q = let s = later q in (s.0, omega (arith, s.1))

    -- what is found is the file's wrap of its index
    pub found_in : (w : FileWrap) (k : ℕ) → Some (placed_wrap_of w, k) ≡ openable_placed all_wraps →
        IsFoundIn (parsed_file L bs) (record { wrap = w; ring_entry = k })
    found_in w k e =
        let s = stands 0 (wrap_count bs) (placed_wrap_of w) k (sym e) in
        let o = found_opens ring leaf node (parsed_file L bs).wraps (record { wrap = w.index; entry = k }) (sym (found_some w k e)) in
        record {
          epoch = ap (λ (p : PlacedWrap). p.epoch) s.0;
          wrap = ap (λ (p : PlacedWrap). p.wrap) s.0 ∙ sym (wrap_stands L bs w.index (omega (arith, s.1)));
          in_ring = o.in_ring;
        }
