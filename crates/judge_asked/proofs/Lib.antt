pub mod Table
pub mod Plain
pub mod Decided
