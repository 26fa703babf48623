pub mod Index
pub mod Light
pub mod Journals
