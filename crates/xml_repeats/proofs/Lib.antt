pub mod Collecting
pub mod Twice
pub mod Decided
