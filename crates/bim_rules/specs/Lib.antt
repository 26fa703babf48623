pub mod Breaches
pub mod Parts
pub mod ByAddress
pub mod Types
pub mod Tables
pub mod Code
pub mod Images
