pub mod Records
pub mod Sources
pub mod Call
pub mod Theorems
pub mod Examples
