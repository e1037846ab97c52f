mod StackLemmas
mod AcceptedLemmas
mod OrderLemmas
mod LeastLemmas
mod PassLemmas
mod EntryLemmas
mod MeaningLemmas
mod SizeLemmas
pub mod Exports
