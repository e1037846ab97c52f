mod LawLemmas
mod EntryLemmas
mod StoreLemmas
mod ReachLemmas
mod CellLemmas
mod UndoLemmas
pub mod Exports
