pub mod Bristol
pub mod Promises
