use Rattle.std.proofs.Common.{◌≡◌, ◌+◌, ◌-◌, ◌*◌, sym, ◌∙◌, arith, rules}
use Rattle.tree.specs.Rows.{standing_at}
use Rattle.tree.proofs.Tables.{standing_leaf, standing_inner, right_none, right_more, right_all}
use Rattle.tree.proofs.board.standing_table.Goals as goal
use Rattle.tree.proofs.board.standing_table.Goals.{then-n-lt128, else-n-lt128}

pub loop-n-init : goal.loop-n-init
loop-n-init c = right_none c.args.row.now c.default-nodes.result (search rules)

pub loop-n-preserved : goal.loop-n-preserved
loop-n-preserved c =
    let row = c.args.row.now in
    let n = c.loop-n.n - 1 in
    let value : c.if-n-lt128.nodes ≡ standing_at row n = elim c.if-n-lt128.branch [
      | then-n-lt128 w ↦
          let left = c.loop-n.invariant.right (2 * n) (omega arith) (omega arith) in
          let right = c.loop-n.invariant.right (2 * n + 1) (omega arith) (omega arith) in
          let both = standing_inner row n (omega arith, omega arith) in
          cc (w.nodes-is, w.or.ensures)
      | else-n-lt128 w ↦ w.nodes-is ∙ w.from.ensures ∙ sym (standing_leaf row n (omega arith, omega arith))
    ] in
    right_more row c.loop-n.nodes c.loop-n.n c.if-n-lt128.nodes c.loop-n-test.true c.loop-n.auto.n value c.loop-n.invariant

pub returns : goal.returns
returns c = right_all c.args.row.now c.loop-n.nodes c.loop-n.n c.loop-n-test.false c.loop-n.invariant
