pub mod Temp
