pub mod Run
pub mod Names
pub mod Stored
pub mod True
pub mod Decided
