-- Crates below, handed on to the specs and proofs of crates above, whose lines in crates.txt so are shorter.
pub use Rattle.spv_fit as spv_fit
pub use Rattle.spv_start as spv_start
