pub mod Blif
pub mod Holding
