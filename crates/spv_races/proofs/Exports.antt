-- What crates above cite of this crate's lemmas; every other file of proofs is the crate's own.
-- A return costs no more where less is kept, or from a later position.
pub use Rattle.spv_races.proofs.WayLemmas.{return_more}
