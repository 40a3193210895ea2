pub mod Telephones
