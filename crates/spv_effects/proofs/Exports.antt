-- What crates above cite of this crate's lemmas; every other file of proofs is the crate's own.
-- The row of lanes that are a value is these lanes.
pub use Rattle.spv_effects.proofs.LaneLemmas.{leaves_of_lanes, one_leaf}
-- Values of scalar and vector types are their lanes.
pub use Rattle.spv_effects.proofs.TypeLemmas.{scalars_are_lanes, two_at_least, value_lanes, lanes_shape}
-- A value whose leaves are exchanged for others of the same widths keeps its shape.
pub use Rattle.spv_effects.proofs.FormShapes.{form_keeps_shape}
-- The results of operations on lanes are lanes of a width whose numbers fit it.
pub use Rattle.spv_effects.proofs.ResultLemmas.{unary_scalars, binary_scalars, field_scalars, low_scalars, high_scalars, glsl_scalars, bitcast_scalars, truth_scalars, selected_widths, extracted_scalars, inserted_scalars, shuffled_scalars}
