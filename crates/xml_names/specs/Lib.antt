pub mod ElementNames
pub mod Examples
pub mod Names
pub mod Values
