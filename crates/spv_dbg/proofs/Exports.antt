-- What crates above cite of this crate's lemmas; every other file of proofs is the crate's own.
-- A map after a number was put under a name.
pub use Rattle.spv_dbg.proofs.NameLemmas.{Names, updated}
-- The debug record with an id by its number, and what is kept of one that an operand leads to.
pub use Rattle.spv_dbg.proofs.NumberLemmas.{numbered_there}
pub use Rattle.spv_dbg.proofs.RecordUses.{leads_kept, leads_bits, record_bits}
