pub mod Annotated
pub mod Flowing
pub mod Laws
pub mod Marks
pub mod Plain
pub mod Wanted
