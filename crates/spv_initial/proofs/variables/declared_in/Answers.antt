use Rattle.spv_initial.proofs.VariableLemmas.{next_declared}
use Rattle.spv_initial.proofs.variables.declared_in.Goals as goal

pub loop-inst-preserved : goal.loop-inst-preserved
loop-inst-preserved c =
    next_declared c.args.types.now c.args.insts.now c.loop-inst.inst-index c.inst-item.result _ _ _ c.loop-inst-test.true c.inst-item.is c.declared_by.ensures c.in_ok-push_some.ensures c.loop-inst.invariant
