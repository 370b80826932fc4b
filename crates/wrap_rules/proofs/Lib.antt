pub mod KeyWrapSteps
pub mod KeyWrapLaw
pub mod Streams
pub mod SivOpenings
pub mod SivSizes
pub mod SivLaw
pub mod Lawful
