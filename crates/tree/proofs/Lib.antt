pub mod Members
pub mod LawfulPlans
pub mod Halvings
pub mod Standing
pub mod Tables
