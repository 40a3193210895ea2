pub mod Findings
pub mod Merge
pub mod Lists
pub mod Numbered
