pub mod Noting
pub mod Latest
