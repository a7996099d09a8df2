pub mod Assurance
pub mod Composed
pub mod Inner
pub mod Sounds
