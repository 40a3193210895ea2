pub mod Pieces
pub mod Keeping
pub mod Parts
pub mod Listed
pub mod Chains
pub mod Some
pub mod Decided
