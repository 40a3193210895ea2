pub mod Roles
pub mod Paths
pub mod Words
pub mod Attributes
pub mod Examples
