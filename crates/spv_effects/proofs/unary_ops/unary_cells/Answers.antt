use Rattle.std.proofs.Common.{◌∙◌, ◌<◌, List, [], ◌∷◌, ◌++◌, map, length, take, add-one, sym, ap, arith}
use Rattle.std.proofs.Math.Seq.{take-suc-set}
use Rattle.spv_base.specs.Cell.{Cell}
use Rattle.spv_alu.specs.Unary.{unary_lane}
use Rattle.spv_effects.proofs.ListLemmas.{map-more}
use Rattle.spv_effects.proofs.unary_ops.unary_cells.Goals as goal

pub loop-i-preserved : goal.loop-i-preserved
loop-i-preserved c =
    let within : c.loop-i.i < length c.loop-i.into = omega arith in
    let first : c.loop-i.i < length c.args.a.now = omega arith in
    let f : Cell → Cell = λ l. unary_lane c.args.operation l c.args.width in
    rw add-one
    (take-suc-set c.loop-i.into c.loop-i.i c.apply.result within
    ∙ ap (λ (t : List Cell). t ++ (c.apply.result ∷ [])) c.loop-i.invariant
    ∙ ap (λ (r : Cell). map f (take c.loop-i.i c.args.a.now) ++ (r ∷ [])) c.apply.ensures.lane
    ∙ sym (map-more f c.args.a.now c.loop-i.i c.index-a-i.result first c.index-a-i.is))
