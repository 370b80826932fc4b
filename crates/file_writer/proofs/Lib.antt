pub mod Pieces
pub mod Whole
