pub mod Tests
pub mod Tables
pub mod Boxes
pub mod Linear
pub mod Columns
pub mod Words
