pub mod Levels
pub mod Agents
pub mod Decided
