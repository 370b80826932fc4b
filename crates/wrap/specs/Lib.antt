pub mod Refusals
pub mod Calls
pub mod Meaning
pub use Rattle.refusal.specs.Refusals as Verdicts
