pub mod Runs
pub mod Calls
pub mod Fit
pub mod Inner
