pub mod Refusals
pub mod Entries
pub mod Finds
pub use Rattle.file_reader.specs.RekeyFiles
pub use Rattle.keys.specs.Names
pub use Rattle.player_rules.specs.Climbs
pub use Rattle.player_rules.specs.Players
pub use Rattle.player_rules.specs.Rings
pub use Rattle.player_rules.specs.Searches
pub use Rattle.refusal.specs.Refusals as Verdicts
pub use Rattle.wrap.specs.Calls
