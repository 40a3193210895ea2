pub mod Declaration
pub mod Decided
