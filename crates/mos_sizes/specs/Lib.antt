pub mod SizeCounts
