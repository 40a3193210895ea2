pub mod Listed
pub mod Holding
pub mod Room
pub mod Numbered
