pub mod States
pub mod Calls
pub mod Notes
pub mod Cards
pub mod Publishings
pub mod Steps
pub mod Sound
pub mod Laws
