pub mod Words
pub mod Numbers
pub mod Header
pub mod Operation
pub mod Slots
pub mod Gates
pub mod Row
pub mod Promises
