pub mod Bytes
pub mod States
pub mod Pipes
pub mod Index
