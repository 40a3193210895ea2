pub mod Counting
pub mod Deciding
pub mod Leaving
pub mod Neighbours
pub mod Decided
