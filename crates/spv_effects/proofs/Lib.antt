mod ListLemmas
mod LaneLemmas
mod VectorLemmas
mod FormLemmas
mod SelectLemmas
mod CompositeLemmas
mod ExtendedLemmas
mod TypeLemmas
mod FormShapes
mod ResultLemmas
pub mod Exports
