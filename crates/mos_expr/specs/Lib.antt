pub mod Grammar
pub mod Laws
pub mod Machine
pub mod Operands
pub mod Reader
pub mod Said
pub mod Sizes
