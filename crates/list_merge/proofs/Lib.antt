pub mod Places
pub mod Records
pub mod Appends
pub mod Answers
pub mod Decided
