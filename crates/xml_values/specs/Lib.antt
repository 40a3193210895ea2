pub mod Places
pub mod Attributes
pub mod Views
pub mod Examples
