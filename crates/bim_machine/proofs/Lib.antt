pub mod AddressPlaces
pub mod Runs
pub mod MoreOfTheWorld
pub mod Pace
pub mod Growth
pub mod WholeCourses
