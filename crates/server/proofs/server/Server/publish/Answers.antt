use Rattle.server_rules.specs.Calls.{Call, IsGivenLawfully, publish, publishing}
use Rattle.law.proofs.Servers.{publish_given}
use Rattle.server.proofs.Kept.{call_kept}
use Rattle.server.proofs.server.Server.publish.Goals as goal

pub invariant_of-self : goal.invariant_of-self
invariant_of-self g c =
    let call : Call =
    publish (publishing g.S.Strategy.meaning g.W.Wrap.meaning c.args.material.now c.args.pairs.now c.args.file.now c.args.work.now) in
    let given : IsGivenLawfully call = publish_given g.met.S.Strategy.lawful g.met.W.Wrap.lawful _ c.type_inv.material in
    call_kept call given c.self.inside.state c.publish.new.state c.publish.ensures.server c.self.invariant

pub returns-clause-written : goal.returns-clause-written
returns-clause-written g c = rw c.self.view_is at c.publish.ensures.written
