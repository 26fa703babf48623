pub mod Kinds
pub mod HeldValues
pub mod Given
