-- What crates above cite of this crate's lemmas; every other file of proofs is the crate's own.
-- The steps of a line, by how many events are kept, and what is kept while it is answered.
pub use Rattle.spv_session.proofs.CostLemmas.{line_rises, line_reaches}
-- The reply and the steps by the tests of the probes that are there.
pub use Rattle.spv_session.proofs.NowLemmas.{reply_now, cost_now}
