pub mod Told
pub mod Appended
pub mod Decided
