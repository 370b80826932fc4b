use Rattle.std.proofs.Common.{◌≡◌, ◌+◌, arith}
use Rattle.byte_strings.specs.Numbers.{byte_at}
use Rattle.file_rules.specs.Layout.{wrap_count}
use Rattle.file_rules.specs.Reading.{wrap_place}
use Rattle.file_rules.proofs.Rewritten.{wraps_many}
use Rattle.file_reader.proofs.Laid.{wraps_nth, placed_wraps}
use Rattle.file_reader.proofs.wraps_in_order.Goals as goal

pub returns : goal.returns
returns c = record {
  as_many = λ L bs. wraps_many L bs (10 + byte_at bs 7) (wrap_count bs);
  each = λ L bs i h. wraps_nth L bs (10 + byte_at bs 7) (wrap_count bs) i h;
  one_by_one = λ L bs. let start : 10 + byte_at bs 7 ≡ wrap_place L bs 0 = omega arith in placed_wraps L bs (10 + byte_at bs 7) 0 (wrap_count bs) start;
}
