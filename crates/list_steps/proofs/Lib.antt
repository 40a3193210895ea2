pub mod Steps
pub mod Walk
pub mod Counts
pub mod Writes
pub mod Answers
pub mod Decided
