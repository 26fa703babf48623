mod Same
mod Lookups
mod Marked
mod Sound
mod Told
mod Plain
mod Kept
mod Flowing
