pub mod Tags
pub mod Reading
pub mod EndTags
pub mod Examples
