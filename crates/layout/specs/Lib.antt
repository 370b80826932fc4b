pub mod Refusals
pub mod Reads
pub use Rattle.byte_strings.specs.Numbers
pub use Rattle.file_rules.specs.Fields
pub use Rattle.file_rules.specs.Layout
pub use Rattle.refusal.specs.Refusals as Verdicts
