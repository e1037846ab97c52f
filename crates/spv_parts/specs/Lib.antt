pub mod Parts
pub mod Composites
pub mod Arrays
pub mod Kept
