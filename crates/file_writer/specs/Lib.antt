pub mod Refusals
pub mod Calls
pub use Rattle.byte_strings.specs.Numbers
pub use Rattle.file_rules.specs.Files
pub use Rattle.refusal.specs.Refusals as Verdicts
pub use Rattle.wrap.specs.Calls as WrapCalls
