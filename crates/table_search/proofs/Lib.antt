pub mod Keys
pub mod Asking
pub mod Searching
pub mod Runs
pub mod Decided
