use Rattle.law.proofs.Servers.{law_of}
use Rattle.server.proofs.server.Server.group_key.Goals as goal

pub returns-clause-belongs_to_members : goal.returns-clause-belongs_to_members
returns-clause-belongs_to_members c = law_of c.args.self.now (rw c.self.view_is at c.self.invariant.1)
