pub mod Declaration
pub mod Examples
