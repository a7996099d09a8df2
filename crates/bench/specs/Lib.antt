pub mod Bench
pub mod Plans
