pub mod StringLaws
pub mod Decided
