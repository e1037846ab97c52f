mod MemberLemmas
mod StopLemmas
mod ApartLemmas
mod DraftLemmas
mod WalkLemmas
mod CountLemmas
mod TypeLemmas
mod PlanLemmas
mod ReadLemmas
mod NumberLemmas
mod PlacedLemmas
mod ComesLemmas
mod PlanOfLemmas
mod FunctionLemmas
mod DefinedLemmas
mod FoundLemmas
pub mod Exports
