pub mod Small
pub mod Given
pub mod Fronts
