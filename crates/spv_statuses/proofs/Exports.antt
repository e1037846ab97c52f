-- What crates above cite of this crate's lemmas; every other file of proofs is the crate's own.
-- Barriers that open and close.
pub use Rattle.spv_statuses.proofs.BarrierLemmas.{passed_opened, closed_opened, opens_waiting, no_moving_opens}
