pub mod Plans
pub mod Examples
pub mod Accepted
pub mod Sound
