pub mod Entry
pub mod Stack
pub mod Acceptance
pub mod Modules
pub mod Breaches
pub mod Validity
pub mod Meanings
pub mod Below
