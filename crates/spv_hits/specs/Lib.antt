pub mod Breaks
pub mod Watches
pub mod Hits
pub mod Kept
pub mod Happenings
pub mod Halts
