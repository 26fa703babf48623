pub mod Whole
pub mod Stalled
pub mod Alone
pub mod Schedule
pub mod Lines
