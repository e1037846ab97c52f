pub mod Ranges
pub mod Touching
pub mod Views
pub mod Seen
pub mod Below
