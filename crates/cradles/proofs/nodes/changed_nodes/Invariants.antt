use Rattle.tree.specs.Rows.{is_changed}
use Rattle.cradles.proofs.Gathering.{AreInnersFrom}
use Rattle.cradles.proofs.nodes.changed_nodes.Given as goal

abbrev pub invariant-loop-n : goal.invariant-loop-n
invariant-loop-n l = AreInnersFrom (is_changed l.board) l.n l.nodes.items
