pub mod Lives
pub mod Journals
pub mod Claims
pub mod Quiet
