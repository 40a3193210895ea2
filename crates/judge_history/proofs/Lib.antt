pub mod Asked
pub mod Decided
