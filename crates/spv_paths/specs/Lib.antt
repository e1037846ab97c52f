pub mod Variables
pub mod Portions
pub mod Paths
pub mod Kept
