-- Crates below, handed on to the specs and proofs of crates above, whose lines in crates.txt so are shorter.
pub use Rattle.spv_bodies as spv_bodies
pub use Rattle.spv_cfg as spv_cfg
pub use Rattle.spv_consts as spv_consts
pub use Rattle.spv_ops as spv_ops
pub use Rattle.spv_sections as spv_sections
pub use Rattle.spv_types as spv_types
