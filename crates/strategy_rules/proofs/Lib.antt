pub mod Kept
pub mod Widths
pub mod Planned
pub mod StarLaw
pub mod UserLaw
pub mod KeyLaw
