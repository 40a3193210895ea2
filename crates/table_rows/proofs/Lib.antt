pub mod Values
pub mod Tests
pub mod Walk
pub mod Decided
