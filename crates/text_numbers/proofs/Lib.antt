pub mod DayLaws
pub mod NumberLaws
pub mod Decided
