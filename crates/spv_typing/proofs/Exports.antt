-- What crates above cite of this crate's lemmas; every other file of proofs is the crate's own.
-- The tests of operand types against what they say.
pub use Rattle.spv_typing.proofs.LawLemmas.{rule_is, glsl_rule_is, fits_by, fits_glsl_by}
