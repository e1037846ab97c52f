pub mod Events
pub mod Marks
pub mod Rings
pub mod Undo
pub mod Entries
pub mod Held
pub mod Touches
pub mod Below
