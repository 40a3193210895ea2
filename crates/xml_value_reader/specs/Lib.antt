pub mod Shown
pub mod Examples
pub mod Moved
