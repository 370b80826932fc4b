use Rattle.std.proofs.Common.{◌≡◌, ℕ, ◌+◌, ◌-◌, sym, ap, ◌∙◌, ap₂, arith}
use Rattle.aes.specs.Keyed.{cipher_of}
use Rattle.wrap_rules.specs.KeyWrap.{wrap_step, wrap_steps}
use Rattle.wrap_rules.proofs.KeyWrapSteps.{steps_none, steps_more}
use Rattle.kw.proofs.register.wrap_register.Goals as goal

pub loop-t-init : goal.loop-t-init
loop-t-init c = steps_none (cipher_of c.args.w) c.args.s.now

pub loop-t-preserved : goal.loop-t-preserved
loop-t-preserved c =
    let e = cipher_of c.args.w in
    let here : c.loop-t.t - 1 + 1 ≡ c.loop-t.t = omega arith in
    let next : c.loop-t.t - 1 + 1 ≡ c.loop-t.t + 1 - 1 = omega arith in
    c.wrap_step.ensures
    ∙ ap₂ (wrap_step e) (sym here) c.loop-t.invariant
    ∙ steps_more e (c.loop-t.t - 1) c.args.s.now
    ∙ ap (λ (n : ℕ). wrap_steps e n c.args.s.now) next
