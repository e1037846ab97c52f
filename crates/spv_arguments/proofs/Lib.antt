mod LevelLemmas
mod TakenLemmas
mod RequestLemmas
mod ReadLemmas
mod CallLemmas
pub mod Exports
