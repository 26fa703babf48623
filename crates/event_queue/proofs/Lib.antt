pub mod Sets
pub mod Arrivals
