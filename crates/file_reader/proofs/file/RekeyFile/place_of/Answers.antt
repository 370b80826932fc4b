use Rattle.std.proofs.Common.{◌+◌, arith}
use Rattle.file_rules.specs.Layout.{wrap_count}
use Rattle.file_rules.proofs.Places.{piece_inside}
use Rattle.file_reader.proofs.file.RekeyFile.place_of.Goals as goal

pub returns-clause-inside : goal.returns-clause-inside
returns-clause-inside c = omega (arith, piece_inside (6 + c.args.self.sealed_len) c.args.i (wrap_count c.args.self.bytes.now) c.requires, c.args.self.size)
