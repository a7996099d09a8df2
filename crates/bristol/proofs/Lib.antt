pub mod StoreLaws
pub mod ReadLaws
pub mod Sound
pub mod Examples
