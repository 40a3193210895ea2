pub mod Codes
pub mod Entities
pub mod Decided
