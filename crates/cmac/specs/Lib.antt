pub mod Blocks
pub mod Cmac
pub use Rattle.aes.specs.Keyed
