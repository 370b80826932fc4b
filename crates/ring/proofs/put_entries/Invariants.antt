use Rattle.std.proofs.Common.{◌≡◌}
use Rattle.ring.proofs.Written.{front}
use Rattle.ring.proofs.put_entries.Given as goal

abbrev pub invariant-loop-k : goal.invariant-loop-k
invariant-loop-k l = l.bytes ≡ front l.entries l.initial.bytes l.k
