use Rattle.tree.specs.Rows.{code_at}
use Rattle.cradles.specs.Draws.{is_arrival_code}
use Rattle.cradles.proofs.Gathering.{AreLeavesBefore}
use Rattle.cradles.proofs.nodes.arrival_leaves.Given as goal

abbrev pub invariant-loop-i : goal.invariant-loop-i
invariant-loop-i l = AreLeavesBefore (λ u. is_arrival_code (code_at l.row u)) l.i l.leaves.items
