pub mod Cradles
pub mod Draws
pub use Rattle.tree.specs.Rows
