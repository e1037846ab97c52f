-- What crates above cite of this crate's lemmas; every other file of proofs is the crate's own.
-- The value of a type is made of its form; the leaves of values, one after another.
pub use Rattle.spv_start.proofs.BlockLemmas.{found_value, read_among_is}
