pub mod Forms
pub mod Found
pub mod Operators
pub mod Constants
