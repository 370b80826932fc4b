pub mod Searches
pub mod Refusals
pub mod Rings
pub mod Shows
pub mod Ways
pub mod EveryPlayer
