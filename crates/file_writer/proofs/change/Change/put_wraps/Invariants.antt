use Rattle.std.proofs.Common.{◌≡◌, ◌+◌}
use Rattle.file_rules.specs.Files.{wrap_bytes}
use Rattle.file_writer.specs.Calls.{pair_wrap_in}
use Rattle.file_writer.proofs.Pieces.{pieces}
use Rattle.file_writer.proofs.change.Change.put_wraps.Given as goal

-- the wraps of the first i pairs are written
abbrev pub invariant-loop-i : goal.invariant-loop-i
invariant-loop-i g l =
    l.section ≡
    pieces wrap_bytes (pair_wrap_in g.W.Wrap.meaning.seals l.self) l.self.plan.now (6 + g.W.Wrap.meaning.length)
    l.initial.section l.i
