pub mod Days
pub mod Numbers
