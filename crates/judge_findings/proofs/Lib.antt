pub mod Listed
pub mod Together
