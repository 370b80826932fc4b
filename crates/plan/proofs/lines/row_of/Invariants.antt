use Rattle.plan.proofs.Filling.{IsFilled}
use Rattle.plan.proofs.lines.row_of.Given as goal

abbrev pub invariant-loop-i : goal.invariant-loop-i
invariant-loop-i l = IsFilled l.digits l.i l.row
