pub mod Compared
pub mod Decided
