use Rattle.std.proofs.Common.{rules}
use Rattle.layout.proofs.Turns.{nodes_more}
use Rattle.layout.proofs.cursor.Cursor.nodes.Goals as goal

pub returns-in_err-before : goal.returns-in_err-before
returns-in_err-before c =
    let e = nodes_more c.loop-left.self.bytes.now c.loop-left.self.at c.loop-left.before c.loop-left.left c.loop-left-test.true in search rules

pub loop-left-preserved : goal.loop-left-preserved
loop-left-preserved c =
    let e = nodes_more c.loop-left.self.bytes.now c.loop-left.self.at c.loop-left.before c.loop-left.left c.loop-left-test.true in search rules
