pub mod Runs
pub mod Steps
pub mod Deeds
pub mod Index
