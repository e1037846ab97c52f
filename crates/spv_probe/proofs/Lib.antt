mod PlaceLemmas
mod FollowLemmas
pub mod Exports
