mod GivenLemmas
mod CellLemmas
mod FitLemmas
pub mod Exports
