pub mod Ranges
pub mod Refusals
pub mod Views
pub mod Stored
pub mod Laws
pub use Rattle.climb.specs.Refusals as ClimbRefusals
pub use Rattle.keys.specs.Limits
pub use Rattle.player_rules.specs.Players
pub use Rattle.refusal.specs.Refusals as Verdicts
pub use Rattle.wrap.specs.Calls
