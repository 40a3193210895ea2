pub mod ElementNames
pub mod Names
pub mod Values
pub mod Decided
