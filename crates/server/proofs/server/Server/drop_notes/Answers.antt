use Rattle.server_rules.specs.Calls.{drop_notes}
use Rattle.server.proofs.Kept.{call_kept}
use Rattle.server.proofs.server.Server.drop_notes.Goals as goal

pub invariant_of-self : goal.invariant_of-self
invariant_of-self c =
    call_kept drop_notes tt c.self.inside.state c.drop_notes.new.state c.drop_notes.ensures c.self.invariant
