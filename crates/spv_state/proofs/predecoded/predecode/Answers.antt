use Rattle.std.proofs.Common.{◌≡◌, ◌+◌, List, Option, Some, length, refl, slice_get, sym, subst}
use Rattle.std.proofs.lemmas.Option.{slice_get_read}
use Rattle.spv_base.specs.declared.instructions.Inst.{Inst}
use Rattle.spv_state.specs.declared.predecoded.Predecoded.{Predecoded}
use Rattle.spv_state.proofs.SourceLemmas.{SoFar, one_more}
use Rattle.spv_state.proofs.predecoded.predecode.Goals as goal

pub loop-n-preserved : goal.loop-n-preserved
loop-n-preserved c =
    let a = c.args.accepted.now in
    let insts = c.insts-insts.result.now in
    let i = c.index-insts-n.result in
    let at : slice_get insts c.loop-n.n ≡ Some i = slice_get_read insts (length insts) c.loop-n.n i refl c.loop-n-test.true c.index-insts-n.is in
    let stands : slice_get a.insts c.loop-n.n ≡ Some i = subst (λ (is : List Inst). slice_get is c.loop-n.n ≡ Some i) c.insts-insts.ensures.insts at in
    subst (λ (ps : List (Option Predecoded)). SoFar a ps (c.loop-n.n + 1)) (sym c.in_ok-push.ensures.items)
    (one_more a c.loop-n.list.items c.loop-n.n i c.predecoded_of.result c.loop-n.invariant stands c.predecoded_of.ensures)
