mod RegisterLemmas
mod FrameLemmas
mod PlanLemmas
mod NumberLemmas
mod StackLemmas
mod ContentLemmas
mod CallLemmas
mod SlotLemmas
mod ListingLemmas
pub mod Exports
