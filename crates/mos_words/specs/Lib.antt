pub mod CommandLine
pub mod Fit
