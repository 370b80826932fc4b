use Rattle.std.proofs.Common.{◌≡◌, length, rules}
use Rattle.aes.proofs.StateWords.{four_columns}
use Rattle.aes.proofs.round.mix_columns.Goals as goal

pub returns : goal.returns
returns g c =
    let long : length c.args.s ≡ 16 = search rules in
    four_columns g.D.Direction.share c.args.s c.mix_column-a.result c.mix_column-b.result c.mix_column-c.result c.mix_column-d.result long
    c.mix_column-a.ensures c.mix_column-b.ensures c.mix_column-c.ensures c.mix_column-d.ensures
