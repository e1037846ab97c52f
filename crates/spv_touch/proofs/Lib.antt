mod OutlineLemmas
mod PartLemmas
mod MemoryLemmas
mod RowLemmas
mod EventLemmas
mod StoreLemmas
mod ChangeLemmas
mod StepLemmas
mod ShapeLemmas
mod FitLemmas
mod KindLemmas
mod PlaceLemmas
mod SeenLemmas
mod ReadyLemmas
mod SoundLemmas
pub mod Exports
