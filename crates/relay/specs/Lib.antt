pub mod Answers
pub mod Assured
