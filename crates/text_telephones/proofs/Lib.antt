pub mod TelephoneLaws
pub mod Decided
