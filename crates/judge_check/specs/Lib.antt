pub mod Long
pub mod Check
pub mod Accepted
