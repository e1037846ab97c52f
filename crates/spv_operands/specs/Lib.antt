pub mod Values
pub mod Shapes
pub mod Operands
pub mod Variables
