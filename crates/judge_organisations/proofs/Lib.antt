pub mod Numbers
pub mod Names
pub mod Decided
