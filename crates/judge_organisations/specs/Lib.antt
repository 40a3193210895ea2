pub mod Organisations
