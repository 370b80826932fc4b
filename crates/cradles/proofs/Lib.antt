pub mod Notes
pub mod Gathering
pub mod Dealing
