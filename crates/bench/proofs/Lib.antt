pub mod LineLaws
pub mod Planning
pub mod Examples
pub mod Sound
