use Rattle.std.proofs.Common.{arith}
use Rattle.tree.specs.Rows.{is_changed, changed_nodes}
use Rattle.cradles.proofs.Gathering.{inners_none, inners_more, inners_room, inners_all}
use Rattle.cradles.proofs.nodes.changed_nodes.Goals as goal

pub loop-n-init : goal.loop-n-init
loop-n-init c = rw c.new-nodes.ensures (inners_none (is_changed c.args.board.now))

pub list_if-requires : goal.list_if-requires
list_if-requires c =
    let test = is_changed c.args.board.now in
    (omega arith, omega (arith, inners_room test c.loop-n.n c.loop-n.nodes.items (omega arith) c.loop-n.invariant))

pub loop-n-preserved : goal.loop-n-preserved
loop-n-preserved c =
    let test = is_changed c.args.board.now in
    rw c.list_if.ensures (rw c.is_changed.ensures
    (inners_more test c.loop-n.n c.loop-n.nodes.items (omega arith) c.loop-n.invariant))

pub returns : goal.returns
unfolding changed_nodes
returns c = inners_all (is_changed c.args.board.now) c.loop-n.n c.loop-n.nodes.items (omega arith) c.loop-n.invariant
