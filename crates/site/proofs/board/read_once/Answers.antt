use Rattle.std.proofs.Common.{rules, replicate}
use Rattle.site.proofs.Boards.{stays_after_read}
use Rattle.site.proofs.board.read_once.Goals as goal

pub returns : goal.returns
returns g c = let is = c.read.ensures in stays_after_read _ _ (replicate 512 0) (search rules) _ _ _ _ is.player is.ring
