pub mod Refusals
pub mod Prepared
pub use Rattle.law.specs.Law
pub use Rattle.law.specs.Runs
pub use Rattle.refusal.specs.Refusals as Verdicts
pub use Rattle.server_rules.specs.Calls as ServerRulesCalls
pub use Rattle.server_rules.specs.Cards
pub use Rattle.server_rules.specs.Notes
pub use Rattle.server_rules.specs.Publishings
pub use Rattle.server_rules.specs.Sound
pub use Rattle.server_rules.specs.States
pub use Rattle.server_rules.specs.Steps
pub use Rattle.tree.specs.Calls as TreeCalls
pub use Rattle.wrap.specs.Calls as WrapCalls
