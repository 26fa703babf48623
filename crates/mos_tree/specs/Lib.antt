pub mod Children
pub mod Forms
pub mod Nodes
pub mod Sizes
pub mod Statements
