pub mod Copying
pub mod Counting
pub mod Merging
pub mod Placing
pub mod Sorting
pub mod Decided
