pub mod Rules
pub mod Lawfulness
