use Rattle.std.proofs.Common.{◌≡◌, ◌∙◌, length, ap, arith}
use Rattle.spv_alu.specs.Binary.{binary_lane}
use Rattle.spv_base.specs.Cell.{Cell}
use Rattle.spv_base.specs.declared.values.Value.{Scalar}
use Rattle.spv_types.specs.Rows.{leaves}
use Rattle.spv_effects.specs.Lanes.{lane_of}
use Rattle.spv_effects.proofs.LaneLemmas.{one_of_two}
use Rattle.spv_effects.proofs.binary_ops.binary.Goals as goal

pub returns-then-len-eq1-clause-value : goal.returns-then-len-eq1-clause-value
returns-then-len-eq1-clause-value c =
    let op = binary_lane c.args.operation in
    let a = c.args.a.now in
    let b = c.args.b.now in
    let one : length (leaves a) ≡ 1 = omega (arith, c.requires.first.count, c.len.ensures, c.if-len-eq1.true) in
    let two : length (leaves b) ≡ 1 = omega (arith, c.requires.second.count, c.len.ensures, c.if-len-eq1.true) in
    c.put_lane.ensures.value
    ∙ ap Scalar (c.apply.ensures.lane ∙ ap (λ (x : Cell). op x c.lane_of-then-len-eq1.result) c.lane_of.ensures ∙ ap (op (lane_of a)) c.lane_of-then-len-eq1.ensures)
    ∙ one_of_two op (leaves a) (leaves b) one two
