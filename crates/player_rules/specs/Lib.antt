pub mod Rings
pub mod Searches
pub mod Climbs
pub mod Ways
pub mod Players
pub mod Laws
