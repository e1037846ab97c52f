pub mod Paths
pub mod Below
