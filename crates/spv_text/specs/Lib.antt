pub mod Spelling
pub mod Listing
pub mod Lines
pub mod Marks
pub mod Reading
pub mod Names
