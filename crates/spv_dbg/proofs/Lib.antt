mod OperandLemmas
mod MeasureLemmas
mod InlinedLemmas
mod WellformedLemmas
mod NameLemmas
mod NumberLemmas
mod SourceLemmas
mod RecordSteps
mod RecordFacts
mod RecordPlaces
mod RecordLemmas
mod RecordLaws
mod RecordUses
pub mod Exports
