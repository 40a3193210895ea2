pub mod Classes
pub mod Joined
pub mod Demand2
pub mod Demand3
pub mod Numbered
