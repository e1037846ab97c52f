mod AccessLemmas
mod IndexLemmas
mod ChainLemmas
mod MemoryRules
mod LengthLemmas
mod CopyLemmas
mod AtomicLemmas
mod AtomicSteps
mod MovedLemmas
mod MovedShapes
mod ChainRoots
mod ComparisonLemmas
pub mod Exports
