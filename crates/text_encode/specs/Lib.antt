pub mod Encode
pub mod Places
