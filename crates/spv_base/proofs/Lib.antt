mod EntryLemmas
mod ListLemmas
mod OptionLemmas
mod TestLemmas
mod LowestLemmas
mod PartLemmas
mod OrderLemmas
mod Writes
mod SaturationLemmas
pub mod Exports
