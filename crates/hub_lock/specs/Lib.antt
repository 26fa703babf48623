pub mod LaneEntries
pub mod Marks
pub mod Seats
pub mod Calls
pub mod Tally
pub mod Inner
