use Rattle.std.proofs.Common.{◌≡◌, ℕ, ◌+◌, List, ◌++◌, length, ap, ◌∙◌, ap₂, rules}
use Rattle.byte_strings.specs.Strings.{xors}
use Rattle.aes.specs.Keyed.{cipher_of}
use Rattle.wrap_rules.specs.KeyWrap.{blocks, msb64, lsb64, word64, wrap_step}
use Rattle.byte_strings.proofs.Overs.{written_three}
use Rattle.kw.proofs.register.wrap_step.Goals as goal

pub returns : goal.returns
unfolding wrap_step
returns c =
    let s = c.args.s.now in
    let a : length c.xor_count.result ≡ 8 = search rules in
    let r : 8 + length c.part_of-r.result ≡ 32 = search rules in
    let l : length s ≡ 32 + length c.lsb.result = search rules in
    written_three s c.xor_count.result c.part_of-r.result c.lsb.result 8 32 c.put.ensures c.put-2.ensures c.put-3.ensures a r l
    ∙ ap₂ (λ (x y : List ℕ). x ++ y) (c.xor_count.ensures ∙ ap (λ (m : List ℕ). xors m (word64 c.args.t)) c.msb.ensures)
    (ap₂ (λ (x y : List ℕ). x ++ y) c.part_of-r.ensures c.lsb.ensures)
    ∙ ap (λ (b : List ℕ). xors (msb64 b) (word64 c.args.t) ++ (blocks 2 3 s ++ lsb64 b)) (c.encipher-b.ensures ∙ ap (cipher_of c.args.w) c.part_of.ensures)
