pub mod Strings
pub mod Numbers
