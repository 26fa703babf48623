pub mod Bytes
pub mod Rows
pub mod Code
pub mod Tables
pub mod Limits
pub mod Rules
pub mod AddressLaws
pub mod Examples
