pub mod Indexed
pub mod Examples
