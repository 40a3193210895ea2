pub mod FirstRow
pub mod Decided
