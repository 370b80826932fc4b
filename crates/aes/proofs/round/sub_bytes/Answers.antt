use Rattle.std.proofs.Common.{◌≡◌, length, rules}
use Rattle.byte_strings.proofs.Arrays.{mapped}
use Rattle.aes.proofs.round.sub_bytes.Goals as goal

pub returns : goal.returns
returns g c =
    let long : length c.args.s ≡ 16 = search rules in
    mapped _ g.D.Direction.box_of _ (λ x y q k. search rules) c.map.result c.args.s 16 long c.map.ensures.items
