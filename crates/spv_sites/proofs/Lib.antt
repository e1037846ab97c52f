mod StandLemmas
mod RunLemmas
mod ComputationLemmas
mod OperandLemmas
mod ValueLemmas
mod PointerLemmas
mod SiteLemmas
mod ComputationRules
mod EffectLemmas
mod RootedLemmas
mod SoundFrames
mod SourceLemmas
mod StepLemmas
pub mod Exports
