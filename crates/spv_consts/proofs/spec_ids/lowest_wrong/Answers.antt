use Rattle.spv_consts.proofs.SpecIdLemmas.{lowest_end, lowest_more}
use Rattle.spv_consts.proofs.spec_ids.lowest_wrong.Goals as goal

pub loop-inst-preserved : goal.loop-inst-preserved
loop-inst-preserved c = lowest_more c.args.context.now.all c.args.insts.now c.loop-inst.inst-index c.inst-item.result c.loop-inst.lowest _ _ _ c.loop-inst-test.true c.inst-item.is c.wrong_spec_id.ensures c.lower-lowest.ensures c.loop-inst.invariant

pub returns : goal.returns
returns c = lowest_end c.args.context.now.all c.args.insts.now c.loop-inst.inst-index c.loop-inst.lowest _ c.loop-inst-test.false c.loop-inst.invariant
