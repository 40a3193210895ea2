pub mod Values
pub mod Decided
