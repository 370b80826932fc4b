pub mod Files
pub mod Fields
pub mod Layout
pub mod Reading
pub mod Sealing
pub mod Laws
