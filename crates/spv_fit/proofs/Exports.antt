-- What crates above cite of this crate's lemmas; every other file of proofs is the crate's own.
-- A schedule is of the invocations that it was asked for.
pub use Rattle.spv_fit.proofs.FitLemmas.{schedule_counts}
