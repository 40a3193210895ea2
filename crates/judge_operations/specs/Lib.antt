pub mod Operations
pub mod Met
