pub mod Ascii
pub mod Decimal
pub mod Listing
pub mod Lines
