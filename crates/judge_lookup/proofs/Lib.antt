pub mod Laws
pub mod Asking
pub mod Parts
pub mod Decided
