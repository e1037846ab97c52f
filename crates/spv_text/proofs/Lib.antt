mod FrontLemmas
mod DigitLemmas
mod StringLemmas
mod PartLemmas
mod LineLemmas
mod NameLemmas
mod InstLemmas
mod ReadingLemmas
pub mod Exports
