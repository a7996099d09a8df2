pub mod FrontLaws
pub mod GateLaws
pub mod LineLaws
pub mod RowLaws
pub mod TableLaws
