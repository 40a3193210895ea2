pub mod Input
pub mod Scratch
pub mod Numbered
