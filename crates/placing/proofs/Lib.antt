pub mod Graphs
pub mod Windows
pub mod Filed
pub mod Accepted
pub mod Resolved
pub mod LookedUp
