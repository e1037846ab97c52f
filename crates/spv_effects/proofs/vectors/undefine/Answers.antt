use Rattle.std.proofs.Common.{◌∙◌, ◌<◌, List, [], ◌∷◌, ◌++◌, map, length, take, add-one, sym, ap, arith}
use Rattle.std.proofs.Math.Seq.{take-suc-set}
use Rattle.spv_base.specs.Cell.{Cell, undefined_cell}
use Rattle.spv_effects.proofs.ListLemmas.{map-more}
use Rattle.spv_effects.proofs.vectors.undefine.Goals as goal

pub loop-i-preserved : goal.loop-i-preserved
loop-i-preserved c =
    let within : c.loop-i.i < length c.loop-i.into = omega arith in
    let first : c.loop-i.i < length c.args.vector.now = omega arith in
    let f : Cell → Cell = λ d. undefined_cell d.width in
    rw add-one
    (take-suc-set c.loop-i.into c.loop-i.i c.defined_if.result within
    ∙ ap (λ (t : List Cell). t ++ (c.defined_if.result ∷ [])) c.loop-i.invariant
    ∙ ap (λ (r : Cell). map f (take c.loop-i.i c.args.vector.now) ++ (r ∷ [])) c.defined_if.ensures
    ∙ sym (map-more f c.args.vector.now c.loop-i.i c.index-vector-i.result first c.index-vector-i.is))
