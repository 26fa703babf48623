pub mod Breaches
pub mod CodeSteps
pub mod Cells
pub mod Starts
