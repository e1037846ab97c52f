pub mod Step
pub mod Cells
pub mod Reached
pub mod Weights
pub mod World
pub mod Recording
pub mod Does
pub mod Kinds
