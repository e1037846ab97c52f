-- The row of a struct of two.
use Rattle.std.proofs.Common.{◌≡◌, ◌∙◌, List, [], ◌∷◌, ◌++◌, append-nil, ap}
use Rattle.spv_alu.specs.declared.extended_op.ExtendedOp.{ExtendedOp}
use Rattle.spv_base.specs.Cell.{Cell}
use Rattle.spv_base.specs.declared.values.Value.{Value}
use Rattle.spv_types.specs.Rows.{leaves}
use Rattle.spv_types.proofs.Exports.{leaves_many}
use Rattle.spv_effects.specs.ExtendedOps.{extended_value, high_lanes, low_lanes}
use Rattle.spv_effects.specs.Lanes.{of_lanes}
use Rattle.spv_effects.proofs.LaneLemmas.{leaves_of_lanes}

pub leaves_of_two : (op : ExtendedOp) (a b : Value) → leaves (extended_value op a b) ≡ low_lanes op (leaves a) (leaves b) ++ high_lanes op (leaves a) (leaves b)
unfolding extended_value
leaves_of_two op a b =
    let low : List Cell = low_lanes op (leaves a) (leaves b) in
    let high : List Cell = high_lanes op (leaves a) (leaves b) in
    leaves_many (of_lanes low ∷ (of_lanes high ∷ []))
    ∙ ap (λ (t : List Cell). leaves (of_lanes low) ++ t) (append-nil (leaves (of_lanes high)) ∙ leaves_of_lanes high)
    ∙ ap (λ (t : List Cell). t ++ high) (leaves_of_lanes low)
