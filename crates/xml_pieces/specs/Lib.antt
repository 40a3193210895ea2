pub mod Pieces
pub mod Numbered
