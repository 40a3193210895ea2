pub mod Ordered
pub mod Drafted
pub mod Agrees
pub mod Decided
