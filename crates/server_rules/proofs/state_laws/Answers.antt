use Rattle.server_rules.proofs.EveryCall.{state_laws}
use Rattle.server_rules.proofs.state_laws.Goals as goal

pub returns : goal.returns
returns c = state_laws
