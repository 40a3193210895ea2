pub mod Written
pub mod Joins
pub mod Examples
