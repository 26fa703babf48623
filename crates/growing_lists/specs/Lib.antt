pub mod Growing
pub mod Journals
