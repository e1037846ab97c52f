mod EventLemmas
mod Histories
mod PositionsLemmas
mod Reaches
mod Runs
mod Tellings
mod TouchLemmas
mod WindowLemmas
pub mod Exports
