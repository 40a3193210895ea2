pub mod References
pub mod Runs
pub mod Quiet
pub mod Decoded
pub mod Examples
