-- The wraps that an iterator over a file has still to hand out.
use Rattle.std.specs.Prelude.{◌-◌, List}
use Rattle.file_rules.specs.Layout.{wrap_count}
use Rattle.file_reader.specs.declared.iter.Wraps.{Wraps}
use Rattle.file_reader.specs.Views.{PlacedWrap, placed_wraps_from}

-- from the next index on, as many as are left of the file's count
abbrev pub wraps_left : Wraps → List PlacedWrap
wraps_left w =
    placed_wraps_from w.file.sealed_len w.file.bytes.now w.next
    (wrap_count w.file.bytes.now - w.next)
