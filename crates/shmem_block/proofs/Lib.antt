pub mod Names
pub mod Writes
