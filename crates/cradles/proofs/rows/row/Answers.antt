use Rattle.std.proofs.Common.{◌≡◌, length, rules}
use Rattle.byte_strings.proofs.Arrays.{mapped}
use Rattle.cradles.specs.Cradles.{cradle_code}
use Rattle.cradles.proofs.rows.row.Goals as goal

pub returns : goal.returns
returns c =
    let long : length c.args.cradles.now ≡ 128 = search rules in
    mapped _ cradle_code _ (λ x y q k. search rules) c.map.result c.args.cradles.now 128 long c.map.ensures.items
