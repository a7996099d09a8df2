pub mod BristolFashion
pub mod BlifDocument
