pub mod Book
pub mod Runs
pub mod Readers
pub mod Links
pub mod Players
pub mod Answers
pub mod Law
