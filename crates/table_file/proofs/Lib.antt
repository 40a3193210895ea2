pub mod Lines
pub mod Counts
pub mod Reading
pub mod Decided
