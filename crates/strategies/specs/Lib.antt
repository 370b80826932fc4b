pub mod Writing
pub use Rattle.refusal.specs.Refusals
pub use Rattle.strategy_rules.specs.Lawfulness
pub use Rattle.strategy_rules.specs.Rules
pub use Rattle.tree.specs.Calls
