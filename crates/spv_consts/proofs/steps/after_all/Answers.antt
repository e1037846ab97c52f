use Rattle.std.proofs.lemmas.Result.{err_from_is_err_and}
use Rattle.spv_consts.proofs.StepLemmas.{walked_end, walked_more, walked_refused}
use Rattle.spv_consts.proofs.steps.after_all.Goals as goal

pub returns-in_err-walk : goal.returns-in_err-walk
returns-in_err-walk c =
    let p = err_from_is_err_and c.from_residual.result c.from_residual.ensures.1 in
    rw (p.1, p.2) (walked_refused c.args.context.now c.loop-inst.walk c.args.insts.now c.loop-inst.inst-index c.inst-item.result c.in_err-walk.field-0.0 _ c.loop-inst-test.true c.inst-item.is c.in_err-walk.ensures c.loop-inst.invariant)

pub loop-inst-preserved : goal.loop-inst-preserved
loop-inst-preserved c = walked_more c.args.context.now c.loop-inst.walk c.in_ok-walk.walk c.args.insts.now c.loop-inst.inst-index c.inst-item.result _ c.loop-inst-test.true c.inst-item.is c.in_ok-walk.ensures c.loop-inst.invariant

pub returns : goal.returns
returns c = walked_end c.args.context.now c.loop-inst.walk c.args.insts.now c.loop-inst.inst-index _ c.loop-inst-test.false c.loop-inst.invariant
