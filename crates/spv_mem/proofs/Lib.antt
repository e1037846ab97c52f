mod CountLemmas
mod PartLemmas
mod PlaceLemmas
mod ElementLemmas
mod RootLemmas
mod MemoryLemmas
mod ChangeLemmas
mod CellLemmas
mod ArrayLemmas
mod BlankLemmas
mod ConditionLemmas
mod SingleLemmas
mod ChainLemmas
pub mod Exports
