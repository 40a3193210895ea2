pub mod Elements
pub mod Walked
pub mod Numbered
