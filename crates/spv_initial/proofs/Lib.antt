mod VariableLemmas
mod ElementLemmas
mod LeafLemmas
mod ShapeLemmas
mod BuiltInLemmas
mod SuitLemmas
mod BufferLemmas
mod StartLemmas
mod LocalLemmas
pub mod Exports
