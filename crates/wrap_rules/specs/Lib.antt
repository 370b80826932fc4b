pub mod KeyWrap
pub mod Counter
pub mod S2v
pub mod Siv
pub mod Laws
pub mod Meanings
pub use Rattle.wrap.specs.Meaning
