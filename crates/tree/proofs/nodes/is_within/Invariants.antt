use Rattle.std.proofs.Common.{◌≡◌, ◌<◌}
use Rattle.tree.specs.Tree.{is_within}
use Rattle.tree.proofs.nodes.is_within.Given as goal

abbrev pub invariant-loop-at : goal.invariant-loop-at
invariant-loop-at l = (is_within l.m l.n ≡ is_within l.at l.n) × (l.at < 256)

abbrev pub decreases-loop-at : goal.decreases-loop-at
decreases-loop-at l = l.at
