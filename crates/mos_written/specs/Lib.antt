pub mod Bases
pub mod Tables
pub mod Dimensions
pub mod Fields
