pub mod Exits
pub mod WordLaws
pub mod NumberLaws
pub mod HeaderLineLaws
pub mod HeaderLaws
pub mod InputLaws
pub mod RowLaws
pub mod Accepted
