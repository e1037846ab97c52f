mod FrameLemmas
mod IdLemmas
mod SharedLemmas
mod OpenLemmas
mod LoadLemmas
mod TreeLemmas
mod TypedLemmas
pub mod Exports
