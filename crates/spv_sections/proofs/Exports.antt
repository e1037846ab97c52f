-- What crates above cite of this crate's lemmas; every other file of proofs is the crate's own.
-- The types of constants come before them, where ids are in order.
pub use Rattle.spv_sections.proofs.TypesFirst.{constant_low, first_read}
