pub mod Taken
pub mod WrittenTypes
pub mod Items
pub mod Parameters
pub mod Headings
