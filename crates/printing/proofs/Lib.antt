pub mod Bounds
pub mod Filling
pub mod Printing
