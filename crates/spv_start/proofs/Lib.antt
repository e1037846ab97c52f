mod NumberLemmas
mod BlockLemmas
mod BuiltInLemmas
pub mod Exports
