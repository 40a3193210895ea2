pub mod Chosen
pub mod Searching
pub mod Examples
