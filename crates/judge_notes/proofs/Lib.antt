pub mod Noted
pub mod Below
pub mod Decided
