pub mod Reading
pub mod States
pub mod Holding
pub mod Areas
