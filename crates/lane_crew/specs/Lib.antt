pub mod Crews
pub mod Starts
pub mod Refusing
