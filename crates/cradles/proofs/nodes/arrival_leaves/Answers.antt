use Rattle.std.proofs.Common.{ℕ, Bool, arith}
use Rattle.tree.specs.Rows.{code_at}
use Rattle.cradles.specs.Draws.{is_arrival_code, arrival_leaves}
use Rattle.cradles.proofs.Gathering.{leaves_none, leaves_more, leaves_room, leaves_all}
use Rattle.cradles.proofs.nodes.arrival_leaves.Goals as goal

pub loop-i-init : goal.loop-i-init
loop-i-init c = rw c.new-leaves.ensures (leaves_none (λ u. is_arrival_code (code_at c.args.row.now u)))

pub list_if-requires : goal.list_if-requires
list_if-requires c =
    let test : ℕ → Bool = λ u. is_arrival_code (code_at c.args.row.now u) in
    (omega arith, omega (arith, leaves_room test c.loop-i.i c.loop-i.leaves.items (omega arith) c.loop-i.invariant))

pub loop-i-preserved : goal.loop-i-preserved
loop-i-preserved c =
    let test : ℕ → Bool = λ u. is_arrival_code (code_at c.args.row.now u) in
    rw c.list_if.ensures (rw c.is_arrival_code.ensures (rw c.code_at.ensures
    (leaves_more test c.loop-i.i c.loop-i.leaves.items (omega arith) c.loop-i.invariant)))

pub returns : goal.returns
unfolding arrival_leaves
returns c = leaves_all (λ u. is_arrival_code (code_at c.args.row.now u)) c.loop-i.i c.loop-i.leaves.items (omega arith) c.loop-i.invariant
