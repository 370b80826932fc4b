use Rattle.std.proofs.Common.{◌≡◌, ◌+◌, ◌-◌, ◌*◌, ◌≤◌}
use Rattle.strategy_rules.specs.Rules.{plan}
use Rattle.strategies.specs.Writing.{with_pairs}
use Rattle.strategies.proofs.Laying.{plan_up_to}
use Rattle.strategies.proofs.writer.PairList.push_plan.Given as goal

abbrev pub invariant-loop-n : goal.invariant-loop-n
invariant-loop-n g l = let rule = g.R.Rule.rule in record {
  few : l.self.count + 256 * l.n ≤ l.fn.self.count + 32768;
  left : with_pairs l.self (plan_up_to rule l.board (l.n - 1)) ≡ with_pairs l.fn.self (plan rule l.board);
}
