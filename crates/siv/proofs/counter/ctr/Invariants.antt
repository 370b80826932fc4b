use Rattle.std.proofs.Common.{◌≡◌, ◌+◌, ◌/◌, length}
use Rattle.aes.specs.Keyed.{cipher_of}
use Rattle.wrap_rules.specs.Counter.{ctr}
use Rattle.wrap_rules.proofs.Streams.{text_to_come}
use Rattle.siv.proofs.counter.ctr.Given as goal

abbrev pub invariant-loop-i : goal.invariant-loop-i
invariant-loop-i l =
    text_to_come (cipher_of l.w) ((length l.initial.text + 15) / 16) l.i l.q l.text
    ≡ ctr (cipher_of l.w) l.fn.v l.initial.text
