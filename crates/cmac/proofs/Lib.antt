pub mod Chained
pub mod Padded
pub mod Sizes
