pub mod Forms
pub mod Stores
pub mod Decided
