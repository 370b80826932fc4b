use Rattle.tree.proofs.Tables.{IsRightFrom}
use Rattle.tree.proofs.board.standing_table.Given as goal

abbrev pub invariant-loop-n : goal.invariant-loop-n
invariant-loop-n l = IsRightFrom l.n l.row l.nodes
