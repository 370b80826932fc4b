use Rattle.std.proofs.Common.{◌≡◌, ◌-◌}
use Rattle.aes.specs.Keyed.{cipher_of}
use Rattle.wrap_rules.specs.KeyWrap.{wrap_steps}
use Rattle.kw.proofs.register.wrap_register.Given as goal

abbrev pub invariant-loop-t : goal.invariant-loop-t
invariant-loop-t l = l.s ≡ wrap_steps (cipher_of l.w) (l.t - 1) l.initial.s
