pub mod Sizes
pub mod InSize
pub mod Means
pub mod Built
pub mod Contexts
pub mod Compiled
pub mod Parts
pub mod Examples
