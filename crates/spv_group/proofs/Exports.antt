-- What crates above cite of this crate's lemmas; every other file of proofs is the crate's own.
-- How far back a group can undo, at a later position.
pub use Rattle.spv_group.proofs.Reaches.{window_later}
-- What a journal keeps, by the weights of events.
pub use Rattle.spv_group.proofs.WindowLemmas.{range_more, windows_rise}
-- What the least and the greatest position that pass a test are.
pub use Rattle.spv_group.proofs.PositionsLemmas.{greatest_is, least_is}
-- An event is one of the invocation that its entry names, and where it is idle nothing changes.
pub use Rattle.spv_group.proofs.EventLemmas.{entry_is, idle_still, event_behind, event_before, IsBehind}
-- What happened up to the next position, and that nothing did up to the first.
pub use Rattle.spv_group.proofs.Tellings.{between_more, between_none}
