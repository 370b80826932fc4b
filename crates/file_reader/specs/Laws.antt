-- The wraps that are handed out by their index, or one after the other, are those of the file that
-- is read back, in their order.
use Rattle.std.specs.Prelude.{◌≡◌, ℕ, ◌<◌, List, length, map, Some}
use Rattle.std.specs.List.{slice_get}
use Rattle.file_rules.specs.Layout.{wrap_count}
use Rattle.file_rules.specs.Reading.{wrap_at, wrap_place, parsed_file}
use Rattle.file_reader.specs.Views.{placed_wraps_from}

-- for any bytes, with L sealed bytes to a wrap
pub record WrapsAreInOrder : Type 0 where
  -- the file that is read back has as many wraps as its count says
  pub as_many : (L : ℕ) (bs : List ℕ) → length (parsed_file L bs).wraps ≡ wrap_count bs
  -- its wrap of index i is what stands at the place of that index
  pub each : (L : ℕ) (bs : List ℕ) (i : ℕ) → i < wrap_count bs →
      slice_get (parsed_file L bs).wraps i ≡ Some (wrap_at L bs (wrap_place L bs i))
  -- the wraps that an iterator hands out from the start are all of them, in order
  pub one_by_one : (L : ℕ) (bs : List ℕ) →
      map (λ p. p.wrap) (placed_wraps_from L bs 0 (wrap_count bs)) ≡ (parsed_file L bs).wraps
