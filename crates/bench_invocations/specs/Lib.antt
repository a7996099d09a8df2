pub mod Invocations
pub mod Walks
