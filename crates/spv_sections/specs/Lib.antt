pub mod Sections
pub mod Capabilities
pub mod Kinds
pub mod Definitions
pub mod Ids
pub mod Laws
