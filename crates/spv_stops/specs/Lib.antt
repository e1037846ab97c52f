pub mod Stops
pub mod Breaks
pub mod Watches
pub mod Halts
