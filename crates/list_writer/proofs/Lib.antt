pub mod Filled
pub mod Decided
