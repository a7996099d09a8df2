pub mod Schedule
pub mod Promises
pub mod Areas
pub mod Given
pub mod Tree
pub mod Taking
pub mod Members
