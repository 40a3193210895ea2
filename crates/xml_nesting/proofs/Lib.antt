pub mod After
pub mod Open
pub mod InOrder
pub mod Read
