use Rattle.std.proofs.Common.{◌≡◌, get_or, Some, arith, rules}
use Rattle.plan.specs.Reading.{code_of_digit}
use Rattle.plan.proofs.Filling.{filled_more}
use Rattle.plan.proofs.lines.row_of.Goals as goal

pub loop-i-preserved : goal.loop-i-preserved
loop-i-preserved c =
    let code : code_of_digit (get_or c.args.digits.now c.loop-i.i 0) ≡ Some c.in_ok-row.field-0 = search rules in
    filled_more c.args.digits.now c.loop-i.i c.loop-i.row c.in_ok-row.field-0 c.loop-i-test.true (omega arith) code c.loop-i.invariant
