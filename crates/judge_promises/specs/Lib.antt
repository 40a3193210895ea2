pub mod Suits
pub mod Right
