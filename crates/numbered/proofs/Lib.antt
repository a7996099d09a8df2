pub mod Numbering
pub mod Examples
