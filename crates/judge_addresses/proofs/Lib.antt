pub mod Addresses
pub mod Decided
