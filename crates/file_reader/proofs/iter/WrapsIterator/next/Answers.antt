use Rattle.std.proofs.Common.{◌<◌, length, ap, rules, arith}
use Rattle.file_rules.specs.Layout.{wrap_count}
use Rattle.file_reader.proofs.Laid.{placed_more}
use Rattle.file_reader.proofs.iter.WrapsIterator.next.Goals as goal

pub returns-clause-steps : goal.returns-clause-steps
returns-clause-steps c =
    let w = c.args.self.now in
    let here : w.next < wrap_count w.file.bytes.now = omega arith in
    let more = placed_more w.file.sealed_len w.file.bytes.now w.next (wrap_count w.file.bytes.now) here in
    search rules

pub returns-clause-goes : goal.returns-clause-goes
returns-clause-goes c =
    let w = c.args.self.now in
    let here : w.next < wrap_count w.file.bytes.now = omega arith in
    let fewer = ap length (placed_more w.file.sealed_len w.file.bytes.now w.next (wrap_count w.file.bytes.now) here) in
    search rules
