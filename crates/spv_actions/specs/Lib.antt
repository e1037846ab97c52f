pub mod Cells
pub mod Below
