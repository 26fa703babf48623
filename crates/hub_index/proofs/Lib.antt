pub mod Legal
pub mod Places
pub mod Held
pub mod Light
pub mod Noted
