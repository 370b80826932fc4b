use Rattle.server_rules.specs.Calls.{admit}
use Rattle.server.proofs.Kept.{call_kept}
use Rattle.server.proofs.server.Server.admit.Goals as goal

pub invariant_of-self : goal.invariant_of-self
invariant_of-self c =
    call_kept (admit c.args.serial c.args.cradle) tt c.self.inside.state c.admit.new.state c.admit.ensures.server c.self.invariant
