-- How the lock goes about it: the rule of its table, its steps, and what a seat knows in between. No public clause cites these.
pub mod Rule
pub mod Steps
pub mod Turns
pub mod Rests
