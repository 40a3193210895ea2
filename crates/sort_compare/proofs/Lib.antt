pub mod Ordering
pub mod Bytes
pub mod Parts
pub mod Skipping
pub mod Comparing
pub mod Sharing
pub mod Decided
