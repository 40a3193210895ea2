pub mod Sorting
pub mod Examples
