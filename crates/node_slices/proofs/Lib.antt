pub mod Slices
pub mod Examples
