pub mod Keeps
pub mod Names
pub mod Rows
pub mod Steps
pub mod Decided
