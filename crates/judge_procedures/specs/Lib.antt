pub mod Procedures
