pub mod Rows
pub mod Spaces
pub mod Walks
pub mod Outcomes
pub mod Decided
