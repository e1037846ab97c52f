-- Crates below, handed on to the specs and proofs of crates above, whose lines in crates.txt so are shorter.
pub use Rattle.spv_alu as spv_alu
pub use Rattle.spv_initial as spv_initial
pub use Rattle.spv_plans as spv_plans
pub use Rattle.spv_results as spv_results
