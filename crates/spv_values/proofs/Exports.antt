-- What crates above cite of this crate's lemmas; every other file of proofs is the crate's own.
-- Where the row of a part lies, for a slice of a row.
pub use Rattle.spv_values.proofs.RowLemmas.{row_within, row_at, scalar_leaf, one_leaf}
