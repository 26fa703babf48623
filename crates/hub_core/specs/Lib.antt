pub mod Room
pub mod Rows
pub mod Keeping
pub mod Turns
pub mod Hubs
pub mod Stories
pub mod Serving
