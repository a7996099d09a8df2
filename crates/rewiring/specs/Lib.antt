pub mod Rewiring
pub mod Beside
pub mod Bypass
