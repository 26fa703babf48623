mod PrefixCodes
mod Entries
mod Instructions
mod Images
mod Ranges
