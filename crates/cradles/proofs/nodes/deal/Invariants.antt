use Rattle.std.proofs.Common.{◌≡◌}
use Rattle.cradles.proofs.Dealing.{keys_with_draws_from}
use Rattle.cradles.proofs.nodes.deal.Given as goal

abbrev pub invariant-loop-i : goal.invariant-loop-i
invariant-loop-i l = keys_with_draws_from l.epoch l.i l.receivers l.material l.nodes ≡ keys_with_draws_from l.epoch 0 l.receivers l.material l.fn.nodes
