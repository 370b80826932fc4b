pub mod State
pub mod Rounds
pub mod KeySchedule
pub mod Cipher
pub mod Keyed
pub mod Laws
