pub mod Parties
pub mod Telecoms
pub mod Decided
