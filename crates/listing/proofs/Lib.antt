pub mod Decimals
pub mod PieceLaws
pub mod LineLaws
