mod Sizes
mod Addresses
