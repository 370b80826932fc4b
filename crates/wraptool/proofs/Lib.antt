pub mod Decoding
pub mod Showing
