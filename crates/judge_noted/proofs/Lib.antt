pub mod Judged
pub mod Decided
