use Rattle.std.proofs.Common.{ℕ, Bool, sym, ◌∙◌, arith}
use Rattle.tree.specs.Rows.{code_at}
use Rattle.cradles.specs.Draws.{is_emptying_code, emptied_leaves}
use Rattle.cradles.proofs.Dealing.{cleared_none, cleared_next, cleared_all}
use Rattle.cradles.proofs.nodes.clear_emptied.Goals as goal

pub loop-i-preserved : goal.loop-i-preserved
loop-i-preserved c =
    let test : ℕ → Bool = λ u. is_emptying_code (code_at c.args.row.now u) in
    rw c.clear_if.ensures (rw c.is_emptying_code.ensures (rw c.code_at.ensures
    (sym (cleared_next test c.loop-i.i c.loop-i.nodes (omega arith)) ∙ c.loop-i.invariant)))

pub returns : goal.returns
unfolding emptied_leaves
returns c =
    let test : ℕ → Bool = λ u. is_emptying_code (code_at c.args.row.now u) in
    sym (cleared_all test c.loop-i.i c.loop-i.nodes (omega arith)) ∙ c.loop-i.invariant ∙ cleared_none test c.args.nodes.now
