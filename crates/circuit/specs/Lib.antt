pub mod Refusals
pub mod Records
pub mod Check
pub mod Graph
pub mod Circuits
