mod CutLemmas
mod HeaderLemmas
mod WordLemmas
mod CutLaws
pub mod Exports
