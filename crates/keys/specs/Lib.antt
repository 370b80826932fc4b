pub mod Names
pub mod Limits
