pub mod Ids
pub mod Texts
pub mod Typed
pub mod Below
