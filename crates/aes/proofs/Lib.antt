pub mod Sixteen
pub mod Steps
pub mod StateWords
pub mod Words
pub mod Turns
pub mod Undo
pub mod Permuting
pub mod Schedules
