use Rattle.std.proofs.Common.{rules}
use Rattle.byte_strings.proofs.Arrays.{made_by}
use Rattle.player_rules.specs.Rings.{entry_at, entries}
use Rattle.ring.proofs.Ring.of.Goals as goal

pub returns : goal.returns
unfolding entries
returns c = made_by _ (entry_at c.args.bytes.now) _ (λ i y q k. search rules) c.from_fn.result 8 c.from_fn.ensures.items
