pub mod Answers
pub mod Laws
pub mod Parsed
pub mod Steps
