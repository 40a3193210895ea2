pub mod Looking
pub mod TheOne
pub mod Decided
