pub mod Boards
pub mod Sites
