pub mod Frames
pub mod Windows
pub mod Walks
