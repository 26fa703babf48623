pub mod Kinds
pub mod Shapes
pub mod Stacks
pub mod Verified
pub mod Tables
pub mod Laws
