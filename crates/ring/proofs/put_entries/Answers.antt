use Rattle.std.proofs.Common.{[], length, get_or, sym, ap, ◌∙◌, arith}
use Rattle.keys.specs.declared.NodeKey.{NodeKey}
use Rattle.ring.specs.Rings.{with_entry}
use Rattle.ring.proofs.Written.{front_more}
use Rattle.ring.proofs.put_entries.Goals as goal

pub loop-k-preserved : goal.loop-k-preserved
loop-k-preserved c =
    let none : NodeKey = record { made = 0; key = [] } in
    let entry : NodeKey = get_or c.args.entries.now c.loop-k.k none in
    c.put_entry.ensures.written
    ∙ ap (λ bytes. with_entry bytes c.loop-k.k entry) c.loop-k.invariant
    ∙ front_more c.args.entries.now c.args.bytes.now c.loop-k.k none
    (sym (ap length c.loop-k.invariant) ∙ c.loop-k.auto.bytes) (omega arith) (omega arith) c.put_entry.ensures.whole_key
