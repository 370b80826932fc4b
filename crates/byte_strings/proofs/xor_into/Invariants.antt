use Rattle.std.proofs.Common.{◌≡◌}
use Rattle.byte_strings.proofs.Xors.{xors_front}
use Rattle.byte_strings.proofs.xor_into.Given as goal

abbrev pub invariant-loop-i : goal.invariant-loop-i
invariant-loop-i l = l.s ≡ xors_front l.initial.s l.x l.i
