pub mod Ample
pub mod Examples
pub mod Servers
pub mod Run
pub mod Worked
pub use Rattle.tree.specs.Plans
pub use Rattle.wrap.specs.Meaning
pub use Rattle.wrap_rules.specs.Meanings
