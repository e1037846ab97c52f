use Rattle.std.proofs.Common.{◌∙◌, ◌<◌, List, [], ◌∷◌, ◌++◌, length, take, add-one, sym, ap, arith}
use Rattle.std.proofs.Math.Seq.{take-suc-set}
use Rattle.std.specs.Simd.Lanes.{zip2}
use Rattle.spv_alu.specs.Binary.{binary_lane}
use Rattle.spv_base.specs.Cell.{Cell}
use Rattle.spv_effects.proofs.ListLemmas.{zip2-more}
use Rattle.spv_effects.proofs.binary_ops.binary_cells.Goals as goal

pub loop-i-preserved : goal.loop-i-preserved
loop-i-preserved c =
    let within : c.loop-i.i < length c.loop-i.into = omega arith in
    let first : c.loop-i.i < length c.args.a.now = omega arith in
    let second : c.loop-i.i < length c.args.b.now = omega arith in
    let done : List Cell = zip2 (binary_lane c.args.operation) (take c.loop-i.i c.args.a.now) (take c.loop-i.i c.args.b.now) in
    rw add-one
    (take-suc-set c.loop-i.into c.loop-i.i c.apply.result within
    ∙ ap (λ (t : List Cell). t ++ (c.apply.result ∷ [])) c.loop-i.invariant
    ∙ ap (λ (r : Cell). done ++ (r ∷ [])) c.apply.ensures.lane
    ∙ sym (zip2-more (binary_lane c.args.operation) c.args.a.now c.args.b.now c.loop-i.i c.index-a-i.result c.index-b-i.result first second c.index-a-i.is c.index-b-i.is))
