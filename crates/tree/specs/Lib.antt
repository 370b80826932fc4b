pub mod Tree
pub mod Rows
pub mod Laws
pub mod Plans
pub mod Calls
pub use Rattle.refusal.specs.Refusals
