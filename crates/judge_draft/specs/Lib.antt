pub mod Forms
pub mod Below
pub mod Searched
pub mod Drafts
pub mod Demands
