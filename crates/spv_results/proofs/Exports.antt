-- What crates above cite of this crate's lemmas; every other file of proofs is the crate's own.
-- The types of an accepted module are sound: what is known of it only as a fact serves that, since they are so in at most one way.
pub use Rattle.spv_results.proofs.SoundTypes.{sound_types}
-- The shape of the results of Any and All.
pub use Rattle.spv_results.proofs.TruthLemmas.{one_lane}
-- A value has the shape of a type in one way at most.
pub use Rattle.spv_results.proofs.ShapeProps.{shape_prop}
-- The types of operands, by what rules say of them.
pub use Rattle.spv_results.proofs.OperandTypes.{HasForm, form_has_type, rest_is}
