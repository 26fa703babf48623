mod Starting
mod Refusing
