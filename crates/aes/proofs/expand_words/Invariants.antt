use Rattle.std.proofs.Common.{◌≡◌, ◌-◌, ◌*◌, take}
use Rattle.aes.specs.KeySchedule.{expanded_key}
use Rattle.aes.proofs.expand_words.Given as goal

abbrev pub invariant-loop-i : goal.invariant-loop-i
invariant-loop-i l = take (4 * l.i) l.w ≡ expanded_key l.nk (take (4 * l.nk) l.initial.w) (l.i - l.nk)
