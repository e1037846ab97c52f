-- What crates above cite of this crate's lemmas; every other file of proofs is the crate's own.
-- The instruction of a line is one.
pub use Rattle.spv_text.proofs.InstLemmas.{zero_fits}
