pub mod Holding
pub mod Endings
pub mod Relays
