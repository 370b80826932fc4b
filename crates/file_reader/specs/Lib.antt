pub mod Refusals
pub mod Views
pub mod RekeyFiles
pub mod Wraps
pub mod Laws
pub use Rattle.byte_strings.specs.Numbers
pub use Rattle.file_rules.specs.Files
pub use Rattle.file_rules.specs.Layout
pub use Rattle.file_rules.specs.Reading
pub use Rattle.refusal.specs.Refusals as Verdicts
pub use Rattle.wrap.specs.Calls
