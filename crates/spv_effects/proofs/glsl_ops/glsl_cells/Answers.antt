use Rattle.std.proofs.Common.{◌∙◌, ◌<◌, List, [], ◌∷◌, ◌++◌, length, take, add-one, sym, ap, arith}
use Rattle.std.proofs.Math.Seq.{take-suc-set}
use Rattle.spv_alu.specs.Glsl.{glsl_lane}
use Rattle.spv_base.specs.Cell.{Cell}
use Rattle.spv_alu.specs.Lanes.{zip3}
use Rattle.spv_effects.proofs.ListLemmas.{zip3-more}
use Rattle.spv_effects.proofs.glsl_ops.glsl_cells.Goals as goal

pub loop-i-preserved : goal.loop-i-preserved
loop-i-preserved c =
    let within : c.loop-i.i < length c.loop-i.into = omega arith in
    let first : c.loop-i.i < length c.args.a.now = omega arith in
    let second : c.loop-i.i < length c.args.b.now = omega arith in
    let third : c.loop-i.i < length c.args.c.now = omega arith in
    let done : List Cell = zip3 (glsl_lane c.args.operation) (take c.loop-i.i c.args.a.now) (take c.loop-i.i c.args.b.now) (take c.loop-i.i c.args.c.now) in
    rw add-one
    (take-suc-set c.loop-i.into c.loop-i.i c.apply.result within
    ∙ ap (λ (t : List Cell). t ++ (c.apply.result ∷ [])) c.loop-i.invariant
    ∙ ap (λ (r : Cell). done ++ (r ∷ [])) c.apply.ensures.lane
    ∙ sym (zip3-more (glsl_lane c.args.operation) c.args.a.now c.args.b.now c.args.c.now c.loop-i.i c.index-a-i.result c.index-b-i.result c.index-c-i.result
    first second third c.index-a-i.is c.index-b-i.is c.index-c-i.is))
