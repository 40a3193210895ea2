pub mod Blocks
pub mod Runs
pub mod Counting
pub mod Fields
pub mod Decided
