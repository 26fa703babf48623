pub mod Cells
pub mod Cuts
pub mod Fixed
pub mod Heads
pub mod Laws
pub mod Lists
pub mod Phrases
pub mod Telling
