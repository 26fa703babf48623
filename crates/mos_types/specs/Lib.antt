pub mod Faults
pub mod Looks
pub mod Statements
pub mod Assignments
pub mod Typs
pub mod Whole
