pub mod Stops
pub mod State
pub mod Calls
pub mod HubFunctions
pub mod Places
pub mod Parameters
pub mod Examples
