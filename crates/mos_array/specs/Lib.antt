pub mod Cells
pub mod Contents
pub mod Scalars
pub mod Rows
pub mod Defaults
pub mod Laws
