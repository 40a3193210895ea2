pub mod EndTags
pub mod Reading
pub mod Judged
pub mod Bounds
pub mod Opening
pub mod Decided
