pub mod Holds
pub mod Decided
