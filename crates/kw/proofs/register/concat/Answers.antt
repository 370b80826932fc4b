use Rattle.std.proofs.Common.{◌≡◌, ◌+◌, length, replicate, rules}
use Rattle.byte_strings.proofs.Overs.{written_two}
use Rattle.kw.proofs.register.concat.Goals as goal

pub returns : goal.returns
returns c =
    let a : length c.args.a ≡ 8 = search rules in
    let r : 16 ≡ 8 + length c.args.r = search rules in
    written_two (replicate 16 0) c.args.a c.args.r 8 c.put.ensures c.put-2.ensures a r
