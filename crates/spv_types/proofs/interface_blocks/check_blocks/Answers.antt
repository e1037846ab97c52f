use Rattle.std.proofs.Common.{◌∙◌, refl, take}
use Rattle.spv_types.proofs.InterfaceBlockLemmas.{layout_done, layout_kept, layout_refused, layout_whole, taken_next, taken_none}
use Rattle.spv_types.proofs.interface_blocks.check_blocks.Goals as goal

pub loop-inst-init : goal.loop-inst-init
loop-inst-init c = record { places = λ set binding. rw c.new-places.ensures.empty (taken_none c.args.index.now.insts set binding); refusals = refl }

pub returns-then-not-keeps_layout : goal.returns-then-not-keeps_layout
returns-then-not-keeps_layout c =
    rw (c.breach.ensures) (layout_whole c.args.index.now.insts c.insts-insts.result.now c.args.types.now _ c.insts-insts.ensures.insts (layout_refused c.args.index.now.insts c.args.types.now c.insts-insts.result.now c.loop-inst.inst-index c.inst-item.result c.loop-inst-test.true c.inst-item.is (c.if-not-keeps_layout.ensures (take c.loop-inst.inst-index c.insts-insts.result.now) c.loop-inst.invariant.places) c.loop-inst.invariant.refusals))

pub loop-inst-preserved : goal.loop-inst-preserved
loop-inst-preserved c = record {
  places = λ set binding. c.in_ok-note_place.ensures set binding ∙ rw (c.loop-inst.invariant.places set binding) (taken_next c.args.index.now.insts c.insts-insts.result.now c.loop-inst.inst-index c.inst-item.result set binding c.loop-inst-test.true c.inst-item.is);
  refusals = layout_kept c.args.index.now.insts c.args.types.now c.insts-insts.result.now c.loop-inst.inst-index c.inst-item.result c.loop-inst-test.true c.inst-item.is (c.if-not-keeps_layout.ensures (take c.loop-inst.inst-index c.insts-insts.result.now) c.loop-inst.invariant.places) c.loop-inst.invariant.refusals;
}

pub returns : goal.returns
returns c =
    layout_whole c.args.index.now.insts c.insts-insts.result.now c.args.types.now _ c.insts-insts.ensures.insts
    (layout_done c.args.index.now.insts c.args.types.now c.insts-insts.result.now c.loop-inst.inst-index c.loop-inst-test.false c.loop-inst.invariant.refusals)
