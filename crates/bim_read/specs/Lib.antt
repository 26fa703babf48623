pub mod Reading
pub mod Fields
pub mod Entries
pub mod Code
pub mod Images
