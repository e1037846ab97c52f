-- What crates above cite of this crate's lemmas; every other file of proofs is the crate's own.
-- The variables of a module: no two have one id, and each may have values of its type.
pub use Rattle.spv_initial.proofs.VariableLemmas.{by_is}
-- The memory that a run starts with, a variable after another.
pub use Rattle.spv_initial.proofs.StartLemmas.{variables_are}
