use Rattle.layout.proofs.Whole.{accepts_if_ok}
use Rattle.layout.proofs.check.Goals as goal

pub returns-clause-accepts : goal.returns-clause-accepts
returns-clause-accepts g c =
    let answer = rw (c.kind.ensures, c.sealed_len.ensures) at c.check_file.ensures in
    accepts_if_ok g.W.Wrap.meaning.kind g.W.Wrap.meaning.length c.args.bytes.now c.check_file.result answer
