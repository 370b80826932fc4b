pub mod Kinds
pub use Rattle.wrap.specs.Meaning
