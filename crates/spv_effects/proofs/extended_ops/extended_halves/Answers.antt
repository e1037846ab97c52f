use Rattle.std.proofs.Common.{◌∙◌, ◌<◌, List, [], ◌∷◌, ◌++◌, length, take, add-one, sym, ap, arith}
use Rattle.std.proofs.Math.Seq.{take-suc-set}
use Rattle.spv_alu.specs.Extended.{extended_lanes}
use Rattle.spv_base.specs.Cell.{Cell}
use Rattle.spv_effects.specs.ExtendedOps.{high_lanes, low_lanes}
use Rattle.spv_effects.proofs.ListLemmas.{zip2-more}
use Rattle.spv_effects.proofs.extended_ops.extended_halves.Goals as goal

pub loop-i-preserved : goal.loop-i-preserved
loop-i-preserved c =
    let below : c.loop-i.i < length c.loop-i.low = omega arith in
    let beside : c.loop-i.i < length c.loop-i.high = omega arith in
    let first : c.loop-i.i < length c.args.a.now = omega arith in
    let second : c.loop-i.i < length c.args.b.now = omega arith in
    let f : Cell → Cell → Cell = λ x y. (extended_lanes c.args.operation x y).0 in
    let g : Cell → Cell → Cell = λ x y. (extended_lanes c.args.operation x y).1 in
    let lows : List Cell = low_lanes c.args.operation (take c.loop-i.i c.args.a.now) (take c.loop-i.i c.args.b.now) in
    let highs : List Cell = high_lanes c.args.operation (take c.loop-i.i c.args.a.now) (take c.loop-i.i c.args.b.now) in
    rw add-one
    (record {
      low =
          take-suc-set c.loop-i.low c.loop-i.i c.apply-lower.result.0 below
          ∙ ap (λ (t : List Cell). t ++ (c.apply-lower.result.0 ∷ [])) c.loop-i.invariant.low
          ∙ ap (λ (r : Cell × Cell). lows ++ (r.0 ∷ [])) c.apply-lower.ensures.lanes
          ∙ sym (zip2-more f c.args.a.now c.args.b.now c.loop-i.i c.index-a-i.result c.index-b-i.result first second c.index-a-i.is c.index-b-i.is);
      high =
          take-suc-set c.loop-i.high c.loop-i.i c.apply-lower.result.1 beside
          ∙ ap (λ (t : List Cell). t ++ (c.apply-lower.result.1 ∷ [])) c.loop-i.invariant.high
          ∙ ap (λ (r : Cell × Cell). highs ++ (r.1 ∷ [])) c.apply-lower.ensures.lanes
          ∙ sym (zip2-more g c.args.a.now c.args.b.now c.loop-i.i c.index-a-i.result c.index-b-i.result first second c.index-a-i.is c.index-b-i.is);
    })
