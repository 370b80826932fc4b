use Rattle.std.proofs.Common.{arith}
use Rattle.std.proofs.lemmas.Grind.{common_steps}
use Rattle.wraptool.proofs.Showing.{shown_more}
use Rattle.wraptool.proofs.hex.HexDigitsDisplay.fmt.Goals as goal

pub loop-byte-preserved : goal.loop-byte-preserved
loop-byte-preserved g c = rw (shown_more c.args.self.now.0.now c.loop-byte.byte-index c.loop-byte-test.true) (grind (arith, common_steps))
