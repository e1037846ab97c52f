-- The row of lanes that are a value is these lanes.
use Rattle.std.proofs.Common.{◌≡◌, ◌∙◌, List, [], ◌∷◌, length, map, slice_index_or, ap, refl, arith}
use Rattle.std.specs.Simd.Lanes.{zip2}
use Rattle.spv_base.specs.Cell.{Cell, undefined_cell}
use Rattle.spv_base.specs.declared.values.Value.{Scalar}
use Rattle.spv_types.specs.Rows.{leaves}
use Rattle.spv_types.proofs.Exports.{leaves_many, leaves_scalar, leaves_scalars}
use Rattle.spv_effects.specs.Lanes.{of_lanes}

pub leaves_of_lanes : (cs : List Cell) → leaves (of_lanes cs) ≡ cs
unfolding of_lanes
leaves_of_lanes [] = leaves_many []
leaves_of_lanes (c ∷ []) = leaves_scalar c
leaves_of_lanes (c ∷ (d ∷ cs)) = leaves_many (map Scalar (c ∷ (d ∷ cs))) ∙ leaves_scalars (c ∷ (d ∷ cs))

pub one_leaf : (c : Cell) → length (leaves (Scalar c)) ≡ 1
one_leaf c = ap length (leaves_scalar c)

-- an operation on the one lane of two scalars
pub one_of_two : (f : Cell → Cell → Cell) (cs ds : List Cell) → length cs ≡ 1 → length ds ≡ 1 → Scalar (f (slice_index_or cs 0 (undefined_cell 0)) (slice_index_or ds 0 (undefined_cell 0))) ≡ of_lanes (zip2 f cs ds)
unfolding of_lanes
one_of_two f [] ds one two = absurd (omega arith)
one_of_two f (c ∷ (b ∷ cs)) ds one two = absurd (omega arith)
one_of_two f (c ∷ []) [] one two = absurd (omega arith)
one_of_two f (c ∷ []) (d ∷ []) one two = refl
one_of_two f (c ∷ []) (d ∷ (e ∷ ds)) one two = absurd (omega arith)
