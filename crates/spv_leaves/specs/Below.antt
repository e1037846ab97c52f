-- Crates below, handed on to the specs and proofs of crates above, whose lines in crates.txt so are shorter.
pub use Rattle.spv_types as spv_types
