pub mod Cover
pub mod Directives
pub mod Gates
pub mod Rows
