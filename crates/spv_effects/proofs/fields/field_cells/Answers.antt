use Rattle.std.proofs.Common.{◌∙◌, ◌<◌, List, [], ◌∷◌, ◌++◌, length, take, add-one, sym, ap, arith}
use Rattle.std.proofs.Math.Seq.{take-suc-set}
use Rattle.std.specs.Simd.Lanes.{zip2}
use Rattle.spv_alu.specs.Fields.{field_lane}
use Rattle.spv_base.specs.Cell.{Cell}
use Rattle.spv_effects.proofs.ListLemmas.{zip2-more}
use Rattle.spv_effects.proofs.fields.field_cells.Goals as goal

pub loop-k-preserved : goal.loop-k-preserved
loop-k-preserved c =
    let within : c.loop-k.k < length c.loop-k.into = omega arith in
    let first : c.loop-k.k < length c.args.base.now = omega arith in
    let second : c.loop-k.k < length c.args.insert.now = omega arith in
    let f : Cell → Cell → Cell = λ b i. field_lane c.args.operation b i c.args.offset c.args.count in
    let done : List Cell = zip2 f (take c.loop-k.k c.args.base.now) (take c.loop-k.k c.args.insert.now) in
    rw add-one
    (take-suc-set c.loop-k.into c.loop-k.k c.apply.result within
    ∙ ap (λ (t : List Cell). t ++ (c.apply.result ∷ [])) c.loop-k.invariant
    ∙ ap (λ (r : Cell). done ++ (r ∷ [])) c.apply.ensures.lane
    ∙ sym (zip2-more f c.args.base.now c.args.insert.now c.loop-k.k c.index-base-k.result c.index-insert-k.result first second c.index-base-k.is c.index-insert-k.is))
