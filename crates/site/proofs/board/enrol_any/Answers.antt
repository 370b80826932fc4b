use Rattle.std.proofs.Common.{sym}
use Rattle.site.proofs.Boards.{on_when_enrolled}
use Rattle.site.proofs.board.enrol_any.Goals as goal

pub returns : goal.returns
returns c = let is = c.in_ok-player.ensures in on_when_enrolled _ _ _ c.in_ok-player.player _ c.from.ensures (sym is.answer) is.ring
