pub mod Passes
pub mod Decided
