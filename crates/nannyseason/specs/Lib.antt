pub mod Answers
pub mod Jobs
pub mod Wraps
pub mod Players
