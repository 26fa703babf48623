pub mod Pushed
pub mod Wanting
pub mod Distinct
pub mod Keeping
pub mod Starting
pub mod Giving
