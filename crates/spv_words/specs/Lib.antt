pub mod Words
pub mod Header
pub mod Cuts
