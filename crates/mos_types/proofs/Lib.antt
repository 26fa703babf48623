pub mod Nodes
pub mod Noted
pub mod Kept
pub mod Trees
pub mod Sides
pub mod Joins
