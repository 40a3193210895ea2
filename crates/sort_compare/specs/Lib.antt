pub mod Order
pub mod Fields
pub mod Keys
pub mod Units
pub mod Examples
