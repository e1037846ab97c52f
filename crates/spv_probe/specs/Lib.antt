pub mod Tests
pub mod Kits
