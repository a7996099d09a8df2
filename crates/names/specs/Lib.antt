pub mod Names
pub mod Chains
pub mod Bounds
