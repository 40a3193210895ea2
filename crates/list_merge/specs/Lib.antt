pub mod Next
pub mod Judge
