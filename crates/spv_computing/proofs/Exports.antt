-- What crates above cite of this crate's lemmas; every other file of proofs is the crate's own.
-- The operands of an instruction that computes are data.
pub use Rattle.spv_computing.proofs.DataLemmas.{lane_operands, binary_has}
