-- Crates below, handed on to the specs and proofs of crates above, whose lines in crates.txt so are shorter.
pub use Rattle.spv_base as spv_base
pub use Rattle.spv_frame as spv_frame
pub use Rattle.spv_machine as spv_machine
pub use Rattle.spv_mem as spv_mem
pub use Rattle.spv_state as spv_state
pub use Rattle.spv_statuses as spv_statuses
pub use Rattle.spv_types as spv_types
pub use Rattle.spv_valid as spv_valid
