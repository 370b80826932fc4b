pub use Rattle.aes.specs.Keyed
pub use Rattle.wrap_rules.specs.KeyWrap
pub use Rattle.wrap_rules.specs.Meanings
