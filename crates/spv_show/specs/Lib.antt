pub mod Scalars
pub mod Pointers
pub mod Lists
pub mod Texts
pub mod Elements
pub mod Rows
pub mod Sheets
