pub mod Comments
pub mod AnyCase
pub mod Instructions
pub mod Decided
