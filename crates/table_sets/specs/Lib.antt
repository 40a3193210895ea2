pub mod SetKeys
pub mod Examples
