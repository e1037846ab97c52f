mod SameLemmas
mod NumberLemmas
mod ReadLemmas
mod PlaceLemmas
mod AlikeLemmas
mod HitLemmas
mod HaltLemmas
pub mod Exports
