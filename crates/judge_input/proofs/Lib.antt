pub mod Admitted
mod Cleared
pub mod Decided
