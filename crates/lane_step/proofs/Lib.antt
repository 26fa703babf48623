pub mod Legality
pub mod WholeSchedules
pub mod Following
