use Rattle.spv_sections.proofs.CapabilityLemmas.{capability_done, capability_kept, capability_refused}
use Rattle.spv_sections.proofs.capabilities.check_all.Goals as goal

pub returns-then-not-is_here : goal.returns-then-not-is_here
returns-then-not-is_here c =
    capability_refused _ c.args.insts.now c.loop-inst.inst-index c.inst-item.result c.declares_variable_pointers-pointers.ensures c.loop-inst-test.true c.inst-item.is c.if-not-is_here.ensures c.loop-inst.invariant

pub loop-inst-preserved : goal.loop-inst-preserved
loop-inst-preserved c = capability_kept _ c.args.insts.now c.loop-inst.inst-index c.inst-item.result c.loop-inst-test.true c.inst-item.is c.if-not-is_here.ensures c.loop-inst.invariant

pub returns : goal.returns
returns c = capability_done _ c.args.insts.now c.loop-inst.inst-index c.declares_variable_pointers-pointers.ensures c.loop-inst-test.false c.loop-inst.invariant
