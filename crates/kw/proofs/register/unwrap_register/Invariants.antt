use Rattle.std.proofs.Common.{◌≡◌}
use Rattle.aes.specs.Keyed.{inv_cipher_of}
use Rattle.wrap_rules.specs.KeyWrap.{unwrap_steps}
use Rattle.kw.proofs.register.unwrap_register.Given as goal

abbrev pub invariant-loop-t : goal.invariant-loop-t
invariant-loop-t l = unwrap_steps (inv_cipher_of l.w) l.t l.s ≡ unwrap_steps (inv_cipher_of l.w) 24 l.initial.s
