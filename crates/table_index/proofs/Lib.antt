pub mod Lookups
pub mod RowKeys
pub mod Collecting
pub mod Runs
pub mod Decided
