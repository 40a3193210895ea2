pub mod Attributes
pub mod Unlisted
pub mod Views
pub mod Decided
