use Rattle.std.proofs.Common.{◌≡◌, length, rules}
use Rattle.byte_strings.proofs.Arrays.{mapped}
use Rattle.cradles.specs.Cradles.{without_notes}
use Rattle.cradles.proofs.rows.without_notes.Goals as goal

pub returns : goal.returns
returns c =
    let long : length c.args.cradles.now ≡ 128 = search rules in
    mapped _ without_notes _ (λ x y q k. search rules) c.map.result c.args.cradles.now 128 long c.map.ensures.items
