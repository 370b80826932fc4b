pub use Rattle.aes.specs.Cipher
pub use Rattle.aes.specs.Keyed
pub use Rattle.wrap_rules.specs.Counter
pub use Rattle.wrap_rules.specs.Meanings
pub use Rattle.wrap_rules.specs.S2v
pub use Rattle.wrap_rules.specs.Siv
