pub mod Definitions
pub mod Placing
pub mod Promises
pub mod Resolved
