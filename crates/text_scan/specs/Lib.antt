pub mod Choice
pub mod Bytes
pub mod Lists
pub mod Walk
pub mod Turns
pub mod Numbered
