pub mod Starts
pub mod Machine
pub mod Instructions
pub mod Courses
pub mod Laws
