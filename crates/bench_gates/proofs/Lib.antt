pub mod Drivers
pub mod Chaining
pub mod Lowering
