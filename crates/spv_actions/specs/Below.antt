-- Crates below, handed on to the specs and proofs of crates above, whose lines in crates.txt so are shorter.
pub use Rattle.spv_mem as spv_mem
pub use Rattle.spv_operands as spv_operands
pub use Rattle.spv_plans as spv_plans
pub use Rattle.spv_results as spv_results
pub use Rattle.spv_types as spv_types
