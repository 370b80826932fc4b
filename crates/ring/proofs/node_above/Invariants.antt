use Rattle.std.proofs.Common.{◌≡◌}
use Rattle.tree.specs.Tree.{ancestor}
use Rattle.ring.proofs.node_above.Given as goal

abbrev pub invariant-loop : goal.invariant-loop
invariant-loop l = l.node ≡ ancestor l.counter l.leaf
