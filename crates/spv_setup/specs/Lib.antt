pub mod Lines
pub mod Rows
pub mod Codes
pub mod Settings
pub mod Reading
pub mod Schedule
pub mod Pieces
