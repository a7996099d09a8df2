pub mod Parts
pub mod Counting
pub mod Parsing
pub mod Inside
