-- What a wrap that was handed out shows.
use Rattle.std.specs.Prelude.{ℕ, zero, suc, ◌+◌, List, [], ◌∷◌, Option}
use Rattle.byte_strings.specs.Numbers.{be_number4}
use Rattle.wrap.specs.Meaning.{WrapMeaning}
use Rattle.keys.specs.Names.{wrap_name}
use Rattle.file_rules.specs.Files.{WrappedKey}
use Rattle.file_rules.specs.Reading.{wrap_at, wrap_place}
use Rattle.file_reader.specs.declared.wraps.FileWrap.{FileWrap}

-- the wrap as a value, without its index and place
abbrev pub wrapped_key_of : FileWrap → WrappedKey
wrapped_key_of w =
    record { opener = w.opener; content = w.content.node; sealed_key = w.sealed.now }

-- what its sealed bytes open to under a key, if they do
abbrev pub content_under : WrapMeaning → List ℕ → FileWrap → Option (List ℕ)
content_under meaning key w = meaning.opens key (wrap_name w.opener w.content) w.sealed.now

-- a wrap of a file: its index from 0, where it begins, the epoch of its content, and what stands
-- there
pub record PlacedWrap : Type 0 where
  pub index : ℕ
  pub place : ℕ
  pub epoch : ℕ
  pub wrap : WrappedKey

-- all that a wrap that was handed out shows
abbrev pub placed_wrap_of : FileWrap → PlacedWrap
placed_wrap_of w = record {
  index = w.index;
  place = w.place;
  epoch = w.content.epoch;
  wrap = wrapped_key_of w;
}

-- the wrap of index i in the bytes of a file, with L sealed bytes to a wrap
abbrev pub placed_wrap_at : ℕ → List ℕ → ℕ → PlacedWrap
placed_wrap_at L bs i = record {
  index = i;
  place = wrap_place L bs i;
  epoch = be_number4 bs 3;
  wrap = wrap_at L bs (wrap_place L bs i);
}

-- so many wraps, from index i on
abbrev pub placed_wraps_from : ℕ → List ℕ → ℕ → ℕ → List PlacedWrap
placed_wraps_from L bs i zero = []
placed_wraps_from L bs i (suc count) = placed_wrap_at L bs i ∷ placed_wraps_from L bs (i + 1) count
