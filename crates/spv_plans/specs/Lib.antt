pub mod Members
pub mod Registers
pub mod Plans
pub mod Drafts
pub mod Registered
