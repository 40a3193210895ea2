pub mod Values
pub mod Chain
pub mod Accepted
pub mod Decided
