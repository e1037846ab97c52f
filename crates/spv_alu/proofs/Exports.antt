-- What crates above cite of this crate's lemmas; every other file of proofs is the crate's own.
-- Numbers by their bits.
pub use Rattle.spv_alu.proofs.BitNumbers.{number_of_bits_below, low_bits_below}
-- Laws of the low-order bits of numbers and integers.
pub use Rattle.spv_alu.proofs.Widths.{integer_has_width, truth_has_width, defined_has_width}
