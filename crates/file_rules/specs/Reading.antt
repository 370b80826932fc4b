-- What stands in the bytes of a file that has no fault, with L sealed bytes to a wrap.
use Rattle.std.specs.Prelude.{ℕ, zero, suc, ◌+◌, ◌*◌, List, [], ◌∷◌}
use Rattle.byte_strings.specs.Numbers.{byte_at, be_number4}
use Rattle.byte_strings.specs.Strings.{part}
use Rattle.file_rules.specs.Files.{WrappedKey, Rekey}
use Rattle.file_rules.specs.Layout.{opener_at, nodes_of, wrap_count}

-- the wrap that begins at a place
abbrev pub wrap_at : ℕ → List ℕ → ℕ → WrappedKey
wrap_at L bs at = record {
  opener = opener_at bs at;
  content = byte_at bs (at + 5);
  sealed_key = part L (at + 6) bs;
}

-- so many wraps, from a place on
abbrev pub wraps_from : ℕ → List ℕ → ℕ → ℕ → List WrappedKey
wraps_from L bs at zero = []
wraps_from L bs at (suc left) = wrap_at L bs at ∷ wraps_from L bs (at + (6 + L)) left

-- where the wrap of index i, counted from 0, begins
abbrev pub wrap_place : ℕ → List ℕ → ℕ → ℕ
wrap_place L bs i = 10 + byte_at bs 7 + i * (6 + L)

-- the file that the bytes are
abbrev pub parsed_file : ℕ → List ℕ → Rekey
parsed_file L bs = record {
  kind = byte_at bs 2;
  epoch = be_number4 bs 3;
  nodes = nodes_of bs;
  wraps = wraps_from L bs (10 + byte_at bs 7) (wrap_count bs);
}
