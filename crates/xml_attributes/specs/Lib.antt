pub mod Attributes
pub mod Examples
pub mod Parts
pub mod Listed
pub mod Chains
