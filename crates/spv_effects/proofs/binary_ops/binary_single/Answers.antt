use Rattle.std.proofs.Common.{◌∙◌, ap}
use Rattle.spv_alu.specs.Binary.{binary_lane}
use Rattle.spv_base.specs.Cell.{Cell}
use Rattle.spv_base.specs.declared.values.Value.{Scalar}
use Rattle.spv_types.specs.Rows.{leaves}
use Rattle.spv_effects.specs.Lanes.{lane_of}
use Rattle.spv_effects.proofs.LaneLemmas.{one_of_two}
use Rattle.spv_effects.proofs.binary_ops.binary_single.Goals as goal

pub returns : goal.returns
returns c =
    let op = binary_lane c.args.operation in
    let a = c.args.a.now in
    let b = c.args.b.now in
    c.single_of.ensures
    ∙ ap Scalar (c.apply.ensures.lane ∙ ap (λ (x : Cell). op x c.lane_of-2.result) c.lane_of.ensures ∙ ap (op (lane_of a)) c.lane_of-2.ensures)
    ∙ one_of_two op (leaves a) (leaves b) c.requires.first.count c.requires.second.count
