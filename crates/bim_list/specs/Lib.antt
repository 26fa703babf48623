pub mod Examples
pub mod Listing
