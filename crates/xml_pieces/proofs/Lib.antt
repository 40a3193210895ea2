pub mod Cases
pub mod Within
pub mod Decided
