pub mod Elsewhere
pub mod Told
pub mod Examples
pub mod Decided
