pub mod Codes
pub mod Demanded
pub mod Decided
