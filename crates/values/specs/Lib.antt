pub mod Values
pub mod Assignments
pub mod Calls
pub mod Inner
