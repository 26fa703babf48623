pub mod Lists
pub mod Marking
pub mod Steps
pub mod Parts
pub mod Turns
pub mod Acting
pub mod Ends
pub mod Waiting
