use Rattle.std.proofs.Common.{◌≡◌}
use Rattle.tree.specs.Rows.{code_at}
use Rattle.cradles.specs.Draws.{is_emptying_code}
use Rattle.cradles.proofs.Dealing.{keys_without_from}
use Rattle.cradles.proofs.nodes.clear_emptied.Given as goal

abbrev pub invariant-loop-i : goal.invariant-loop-i
invariant-loop-i l =
    keys_without_from (λ u. is_emptying_code (code_at l.row u)) l.i l.nodes
    ≡ keys_without_from (λ u. is_emptying_code (code_at l.row u)) 0 l.fn.nodes
