pub mod Laws
pub mod Groups
pub mod Spaces
pub mod Decided
