-- What crates above cite of this crate's lemmas; every other file of proofs is the crate's own.
-- What loads and stores do.
pub use Rattle.spv_accesses.proofs.AccessLemmas.{load_gives, stores, store_gives, found, load_shape, store_fits}
