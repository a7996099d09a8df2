pub mod Areas
pub mod Bits
pub mod Lists
pub mod Stretches
pub mod Digits
pub mod Sums
pub mod Table
