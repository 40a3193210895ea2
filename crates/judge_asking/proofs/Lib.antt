pub mod Marked
pub mod Plainly
pub mod Filled
pub mod Decided
