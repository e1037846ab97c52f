mod ListLemmas
mod FirstLemmas
mod SlotLemmas
mod PlaceLemmas
mod KeyLemmas
mod IndexLemmas
mod StartLemmas
mod StandLemmas
mod StandingLemmas
pub mod Exports
