use Rattle.std.proofs.Common.{◌≡◌, ◌+◌, length, ◌∙◌, arith, rules}
use Rattle.byte_strings.proofs.Overs.{written_two}
use Rattle.siv.proofs.SivWrap.seal_to.Goals as goal

pub returns-clause-written : goal.returns-clause-written
returns-clause-written c =
    let v = c.seal_under-v.result in
    let t = c.seal_under-v.new.text in
    let hv : length c.seal_under-v.result ≡ 16 = search rules in
    let ht : length c.seal_under-v.new.text ≡ 32 = search rules in
    let ho : length c.args.out.now ≡ 16 + length c.seal_under-v.new.text = omega (arith, ht) in
    written_two c.args.out.now v t 16 c.put.ensures c.put-2.ensures hv ho
    ∙ c.seal_under-v.ensures
