pub mod Chains
pub mod Targets
pub mod Roots
pub mod Memory
pub mod Levels
pub mod Singles
pub mod Blanks
pub mod Conditions
