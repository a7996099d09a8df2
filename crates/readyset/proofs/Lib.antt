pub mod Clearing
pub mod Empty
pub mod Levels
pub mod Front
pub mod Ends
