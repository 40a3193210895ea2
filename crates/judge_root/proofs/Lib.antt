pub mod Children
pub mod Decided
