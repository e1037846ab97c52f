-- What crates above cite of this crate's lemmas; every other file of proofs is the crate's own.
-- What is found under an id, and what the types before one give.
pub use Rattle.spv_types.proofs.TypeLemmas.{number_lt, number_form, number_none, in_first-found, in_first-is}
-- The leaves of a type are those of its form, and the leaves of members add up.
pub use Rattle.spv_types.proofs.CellLemmas.{added_is}
-- A type added at the end, and a form written under an id.
pub use Rattle.spv_types.proofs.TableLemmas.{on_ok}
-- What a test of a type tells of its form.
pub use Rattle.spv_types.proofs.DataLemmas.{scalar_data, sized_data, member_data, width_narrow, data_form}
-- The types and the refusals, one instruction after another.
pub use Rattle.spv_types.proofs.BuildLemmas.{types_push}
-- What types count as, one type or member after another.
pub use Rattle.spv_types.proofs.LimitLemmas.{limit_unknown}
-- Shapes at a type: by its number, by its form, and by what its parts have.
pub use Rattle.spv_types.proofs.ShapeLemmas.{among_is, form_number, shapes_are_by_forms, shape_formed}
-- What keeps the rule of a form keeps it among other types that count as the same.
pub use Rattle.spv_types.proofs.SoundLemmas.{impossible}
-- The length of an array changes no number, no rule and no part of a type, and no shape before the array.
pub use Rattle.spv_types.proofs.LengthLemmas.{number_written, form_written, length_numbers, length_others, length_here, length_none}
-- Types stay sound as a type that keeps the rule of its form is added at their end.
pub use Rattle.spv_types.proofs.GrowthLemmas.{form_append}
-- The types of a module that keeps the rules of types are sound, one instruction after another.
pub use Rattle.spv_types.proofs.AcceptedLemmas.{breach_none, kept_first, form_sound, accepted_is, no_types, none_refused}
-- The row of a value, by its outermost level.
pub use Rattle.spv_types.proofs.RowLemmas.{scalar_by, many_by, pointer_by, leaves_scalar, leaves_many, scalar_row, many_row, leaves_scalars, no_leaves}
-- A value of a shape has as many leaves as its type has cells.
pub use Rattle.spv_types.proofs.RowCounts.{times_is, many_is, shapes_count}
-- Where the row of a part lies in the row of a value, and what a write to the part leaves.
pub use Rattle.spv_types.proofs.RowPlaces.{has_part, changed, part_lies, lies_at, lies_written, lies_within}
-- A part that was put is there, the last one put stays, and the old one put back gives the old value.
pub use Rattle.spv_types.proofs.RowChanges.{put_is_there, put_twice, put_back, slot_has_row}
-- A part has the shape of its type, and a value keeps its shape where a part of that shape is put.
pub use Rattle.spv_types.proofs.RowShapes.{shapes_keep}
-- The row of a value with no pointer tells the value.
pub use Rattle.spv_types.proofs.RowValues.{no_pointer}
-- Types that are counted: their leaves, and that these stay as types are added and arrays get their lengths.
pub use Rattle.spv_types.proofs.CountedLemmas.{FoundAt, found_at, cells_whole, form_found}
-- The place of a leaf of a part is the part's Offset and its place in the part.
pub use Rattle.spv_types.proofs.OffsetLemmas.{cells_by_form}
