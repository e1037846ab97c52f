pub mod Ids
pub mod Instructions
pub mod Rows
pub mod Inputs
