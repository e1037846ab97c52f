use Rattle.std.proofs.Common.{◌≡◌, ◌∙◌, ◌<◌, List, [], ◌∷◌, ◌++◌, length, take, add-one, sym, ap, arith}
use Rattle.std.proofs.Math.Seq.{take-suc-set}
use Rattle.spv_alu.specs.Select.{select_of}
use Rattle.spv_base.specs.Cell.{Cell}
use Rattle.spv_alu.specs.Lanes.{zip3}
use Rattle.spv_effects.proofs.ListLemmas.{zip3-more}
use Rattle.spv_effects.proofs.SelectLemmas.{same_lengths, same_width}
use Rattle.spv_effects.proofs.selects.select_each.Goals as goal

pub select-requires : goal.select-requires
select-requires c =
    let first : c.loop-i.i < length c.args.a.now = omega arith in
    same_width c.args.a.now c.args.b.now c.loop-i.i c.index-a-i.result c.index-b-i.result c.requires.objects.widths first c.index-a-i.is c.index-b-i.is

pub loop-i-preserved : goal.loop-i-preserved
loop-i-preserved c =
    let within : c.loop-i.i < length c.loop-i.into = omega arith in
    let alike : length c.args.a.now ≡ length c.args.b.now = same_lengths c.args.a.now c.args.b.now c.requires.objects.widths in
    let zeroth : c.loop-i.i < length c.args.condition.now = omega arith in
    let first : c.loop-i.i < length c.args.a.now = omega arith in
    let second : c.loop-i.i < length c.args.b.now = omega arith in
    let done : List Cell = zip3 select_of (take c.loop-i.i c.args.condition.now) (take c.loop-i.i c.args.a.now) (take c.loop-i.i c.args.b.now) in
    rw add-one
    (take-suc-set c.loop-i.into c.loop-i.i c.select.result within
    ∙ ap (λ (t : List Cell). t ++ (c.select.result ∷ [])) c.loop-i.invariant
    ∙ ap (λ (r : Cell). done ++ (r ∷ [])) c.select.ensures.lane
    ∙ sym (zip3-more select_of c.args.condition.now c.args.a.now c.args.b.now c.loop-i.i c.index-condition-i.result c.index-a-i.result c.index-b-i.result
    zeroth first second c.index-condition-i.is c.index-a-i.is c.index-b-i.is))
