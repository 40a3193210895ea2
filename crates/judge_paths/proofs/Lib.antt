pub mod Words
pub mod Children
pub mod Walks
pub mod Parents
pub mod Decided
