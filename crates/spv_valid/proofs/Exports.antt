-- What crates above cite of this crate's lemmas; every other file of proofs is the crate's own.
-- Modules in which no pass has a breach.
pub use Rattle.spv_valid.proofs.AcceptedLemmas.{accepted_passes}
-- What each pass tells of its breaches, and all of them together.
pub use Rattle.spv_valid.proofs.PassLemmas.{flow_is}
-- The size of a workgroup.
pub use Rattle.spv_valid.proofs.SizeLemmas.{IsFit, size_fits, size_holds}
