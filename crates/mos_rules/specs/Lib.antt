pub mod Results
pub mod Rows
pub mod Calls
pub mod Names
pub mod Fields
pub mod Forms
pub mod Indexes
