-- What crates above cite of this crate's lemmas; every other file of proofs is the crate's own.
-- The values of types whose runtime arrays have a number of elements.
pub use Rattle.spv_show.proofs.ElementLemmas.{number_sized, form_sized, length_sized, part_counted, counted_shape, sized_shape}
