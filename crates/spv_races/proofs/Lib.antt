pub mod Exports
mod WayLemmas
mod EventLemmas
