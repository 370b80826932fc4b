use Rattle.server_rules.specs.Calls.{remove}
use Rattle.server.proofs.Kept.{call_kept}
use Rattle.server.proofs.server.Server.remove.Goals as goal

pub invariant_of-self : goal.invariant_of-self
invariant_of-self c =
    call_kept (remove c.args.serial) tt c.self.inside.state c.remove.new.state c.remove.ensures.server c.self.invariant
