use Rattle.std.proofs.Common.{◌<◌, false, sym, arith, rules}
use Rattle.std.proofs.lemmas.Fmt.{hex_byte}
use Rattle.std.proofs.lemmas.Grind.{common_steps}
use Rattle.wraptool.proofs.hex.TwoDigitsDisplay.fmt.Goals as goal

pub returns-clause-writes : goal.returns-clause-writes
returns-clause-writes g c =
    let small : c.args.self.now.0 < 256 = search rules in
    rw (sym (hex_byte false c.args.self.now.0 small)) (grind (arith, common_steps))
