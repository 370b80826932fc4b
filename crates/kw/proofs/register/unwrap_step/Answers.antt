use Rattle.std.proofs.Common.{◌≡◌, ℕ, ◌+◌, List, ◌++◌, length, ap, ◌∙◌, ap₂, rules}
use Rattle.byte_strings.specs.Strings.{xors}
use Rattle.aes.specs.Keyed.{inv_cipher_of}
use Rattle.wrap_rules.specs.KeyWrap.{word64, unwrap_step}
use Rattle.byte_strings.proofs.Overs.{written_two}
use Rattle.kw.proofs.register.unwrap_step.Goals as goal

pub returns : goal.returns
unfolding unwrap_step
returns c =
    let b : length c.decipher-b.result ≡ 16 = search rules in
    let r : length c.args.s.now ≡ 16 + length c.part_of-r.result = search rules in
    let block = c.concat.ensures
    ∙ ap₂ (λ (x y : List ℕ). x ++ y) (c.xor_count-a.ensures ∙ ap (λ (a : List ℕ). xors a (word64 c.args.t)) c.part_of.ensures) c.part_of-2.ensures in
    written_two c.args.s.now c.decipher-b.result c.part_of-r.result 16 c.put.ensures c.put-2.ensures b r
    ∙ ap₂ (λ (x y : List ℕ). x ++ y) (c.decipher-b.ensures ∙ ap (inv_cipher_of c.args.w) block) c.part_of-r.ensures
