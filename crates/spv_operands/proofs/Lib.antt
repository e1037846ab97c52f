mod ListLemmas
mod FormLemmas
mod FrontLemmas
mod TargetLemmas
mod VariableLemmas
mod MeaningLemmas
mod ConstantLemmas
mod ShapeLemmas
mod ClassLemmas
mod ClassTargets
mod OperandLemmas
mod FrameLemmas
mod ReadingLemmas
pub mod Exports
