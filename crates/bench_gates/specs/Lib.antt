pub mod Operations
pub mod Gates
pub mod Walks
