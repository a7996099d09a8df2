pub mod Assuring
pub mod BristolSound
pub mod Carrying
pub mod Composing
pub mod Running
