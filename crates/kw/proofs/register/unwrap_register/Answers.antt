use Rattle.std.proofs.Common.{◌≡◌, ℕ, ◌+◌, ◌-◌, ap, ◌∙◌, sym, arith}
use Rattle.aes.specs.Keyed.{inv_cipher_of}
use Rattle.wrap_rules.specs.KeyWrap.{unwrap_step, unwrap_steps}
use Rattle.wrap_rules.proofs.KeyWrapSteps.{unsteps_none, unsteps_more}
use Rattle.kw.proofs.register.unwrap_register.Goals as goal

pub loop-t-preserved : goal.loop-t-preserved
loop-t-preserved c =
    let d = inv_cipher_of c.args.w in
    let t = c.loop-t.t - 1 in
    let here : c.loop-t.t - 1 + 1 ≡ c.loop-t.t = omega arith in
    ap (unwrap_steps d t) (c.unwrap_step.ensures ∙ ap (λ (n : ℕ). unwrap_step d n c.loop-t.s) (sym here))
    ∙ unsteps_more d t c.loop-t.s
    ∙ ap (λ (n : ℕ). unwrap_steps d n c.loop-t.s) here
    ∙ c.loop-t.invariant

pub returns : goal.returns
returns c =
    let d = inv_cipher_of c.args.w in
    let end : ◌≡◌ {A = ℕ} 0 c.loop-t.t = omega arith in
    unsteps_none d c.loop-t.s
    ∙ ap (λ (n : ℕ). unwrap_steps d n c.loop-t.s) end
    ∙ c.loop-t.invariant
