pub mod Operations
pub mod Chains
pub mod GateMeaning
pub mod TextMeaning
