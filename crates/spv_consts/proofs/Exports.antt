-- What crates above cite of this crate's lemmas; every other file of proofs is the crate's own.
-- Lanes that are scalars of a width: blank ones, literals, overrides and Booleans.
pub use Rattle.spv_consts.proofs.ScalarShapes.{is_scalar, undefined_is_lane}
-- Ids that no two instructions share: what each of them defines, and where it stands.
pub use Rattle.spv_consts.proofs.WalkIds.{Differs, differ_before, differ_behind, found_of_defining, before_is_front}
-- The number of each type that a module declares, and what its rules say of an undefined value's type.
pub use Rattle.spv_consts.proofs.WalkTypes.{form_left, types_joined, kept_at, undef_is_sized}
-- What is so in each state of the walk over a module's constants: the types up to there are complete, and each constant fills its
-- type.
pub use Rattle.spv_consts.proofs.WalkSteps.{Follows, follows_start}
-- The walk over a module's constants, from its first instruction to its last before the functions.
pub use Rattle.spv_consts.proofs.WalkConstants.{ends, walk_follows}
