pub mod Leaves
pub mod Numbers
pub mod Enums
pub mod Pieces
pub mod Layouts
pub mod Sheets
pub mod Nesting
