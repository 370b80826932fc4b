use Rattle.std.proofs.Common.{rules}
use Rattle.layout.proofs.Turns.{wraps_more}
use Rattle.layout.proofs.cursor.Cursor.wraps.Goals as goal

pub returns-in_err-wrap : goal.returns-in_err-wrap
returns-in_err-wrap c =
    let h = c.args.head in
    let file = c.loop.self in
    let e = wraps_more h.sealed_len h.epoch h.nodes.now file.bytes.now file.at c.args.count c.loop.counter c.loop-test.true in
    search rules

pub loop-preserved : goal.loop-preserved
loop-preserved c =
    let h = c.args.head in
    let file = c.loop.self in
    let e = wraps_more h.sealed_len h.epoch h.nodes.now file.bytes.now file.at c.args.count c.loop.counter c.loop-test.true in
    search rules
