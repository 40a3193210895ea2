pub mod Texts
pub mod Child
pub mod Decided
