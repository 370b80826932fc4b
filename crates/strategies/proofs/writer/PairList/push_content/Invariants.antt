use Rattle.std.proofs.Common.{◌≡◌}
use Rattle.strategy_rules.specs.Rules.{pairs_for}
use Rattle.strategies.specs.Writing.{with_pairs}
use Rattle.strategies.proofs.Laying.{present_pairs_from}
use Rattle.strategies.proofs.writer.PairList.push_content.Given as goal

abbrev pub invariant-loop-o : goal.invariant-loop-o
invariant-loop-o g l =
    let rule = g.R.Rule.rule in
    with_pairs l.self (present_pairs_from rule l.board l.n l.o) ≡ with_pairs l.fn.self (pairs_for rule l.board l.n)
