pub mod Unclaimed
pub mod Scans
pub mod Prefixes
