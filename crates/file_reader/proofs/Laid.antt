-- How many nodes, wraps and bytes an accepted file has, and where its wraps stand.
use Rattle.std.proofs.Common.{◌≡◌, ℕ, zero, suc, ◌+◌, ◌-◌, ◌*◌, ◌<◌, ◌≤◌, true, List, ◌∷◌, length, take, drop, map, ap₂, Some, sym, refl, ap, ◌∙◌, suc-mul}
use Rattle.std.proofs.Common.{add-mul, arith}
use Rattle.std.specs.List.{slice_get}
use Rattle.byte_strings.specs.Numbers.{byte_at, be_number4}
use Rattle.file_rules.specs.Files.{file_size}
use Rattle.file_rules.specs.Layout.{wrap_count, is_rekey_file}
use Rattle.file_rules.specs.Reading.{wrap_at, wrap_place, wraps_from}
use Rattle.file_rules.proofs.Faults.{none_both, is_none, at_values}
use Rattle.file_rules.proofs.Faultless.{faultless_head, wraps_end, count_ends}
use Rattle.file_reader.specs.Views.{placed_wrap_at, placed_wraps_from}

-- the numbers of a file that has no fault, and its length
pub record IsLaidOut (L : ℕ) (bs : List ℕ) : Type 0 where
  pub few_nodes : byte_at bs 7 ≤ 127
  pub few_wraps : wrap_count bs ≤ 896
  pub size : file_size L (byte_at bs 7) (wrap_count bs) ≡ length bs

-- a rekey file has numbers in these bounds, and the length that they give
pub laid : (L : ℕ) (bs : List ℕ) → is_rekey_file L bs ≡ true → IsLaidOut L bs
unfolding is_rekey_file
laid L bs e =
    let a = none_both _ _ (sym (at_values (byte_at bs 2) L bs _ _ _ refl refl refl) ∙ is_none _ e) in
    let b = none_both _ _ a.1 in
    let d = none_both _ _ b.1 in
    record {
      few_nodes = (faultless_head (byte_at bs 2) bs a.0).nodes.1;
      few_wraps = (count_ends bs (8 + byte_at bs 7) d.0).1;
      size = wraps_end L (be_number4 bs 3) (take (byte_at bs 7) (drop 8 bs)) bs (10 + byte_at bs 7) (wrap_count bs) d.1;
    }

-- the wrap of index i is what stands i wraps further on
pub wraps_nth : (L : ℕ) (bs : List ℕ) (at k i : ℕ) → i < k → slice_get (wraps_from L bs at k) i ≡ Some (wrap_at L bs (at + i * (6 + L)))
wraps_nth L bs at zero i h = absurd (omega arith)
wraps_nth L bs at (suc k) zero h =
    let e : at ≡ at + 0 * (6 + L) = omega arith in ap (λ p. Some (wrap_at L bs p)) e
wraps_nth L bs at (suc k) (suc i) h =
    let e : at + (6 + L) + i * (6 + L) ≡ at + suc i * (6 + L) = omega (arith, suc-mul i (6 + L)) in
    wraps_nth L bs (at + (6 + L)) k i (omega arith) ∙ ap (λ p. Some (wrap_at L bs p)) e

-- of the wraps that are left, the next one and the rest
pub placed_more : (L : ℕ) (bs : List ℕ) (i count : ℕ) → i < count →
    placed_wraps_from L bs i (count - i) ≡ placed_wrap_at L bs i ∷ placed_wraps_from L bs (i + 1) (count - (i + 1))
placed_more L bs i count h =
    let e : count - i ≡ suc (count - (i + 1)) = omega arith in ap (placed_wraps_from L bs i) e

-- without their indices and places, they are the wraps of the file
pub placed_wraps : (L : ℕ) (bs : List ℕ) (at i k : ℕ) → at ≡ wrap_place L bs i → map (λ p. p.wrap) (placed_wraps_from L bs i k) ≡ wraps_from L bs at k
placed_wraps L bs at i zero e = refl
placed_wraps L bs at i (suc k) e =
    let next : at + (6 + L) ≡ wrap_place L bs (i + 1) = omega (arith, add-mul i 1 (6 + L)) in
    ap₂ ◌∷◌ (ap (wrap_at L bs) (sym e)) (placed_wraps L bs (at + (6 + L)) (i + 1) k next)
